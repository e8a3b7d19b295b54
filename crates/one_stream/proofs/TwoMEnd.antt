-- 2M works: a frame has its cause, the invariant is kept, and at the end of a message all live receivers have delivered it
-- or none has.
use Prim.Native.Nat.{ℕ, ◌+◌, ◌≤◌, ◌<◌}
use native.Mathlib.Omega.{arith}
use mathlib.Core.Path.{◌≡◌, refl, subst}
use mathlib.Core.Logic.{◌⊎◌, inl, inr}
use mathlib.Core.Bool.{Bool, true, false, ◌||◌}
use mathlib.Core.List.{List, [], ◌∷◌}
use lib.Dec.{T}
use Rattle.one_stream.proofs.Truth.{decide}
use Rattle.one_stream.specs.Sendings.{Bytes, Moment, move, Delays, never, Some, Full}
use Rattle.one_stream.proofs.Sendings.{move_later, some_resend, omitted, omitted_some, full_some, full_not_omitted, never_some}
use Rattle.one_stream.proofs.Sendings.{decide_full, decide_some, DataTimes, Stamped}
use Rattle.one_stream.specs.Frames.{Frame, Each, Any, NonEmpty}
use Rattle.one_stream.specs.Classes.{Note, State, Live, Event, send_data, send_conf, send_code2, give, tick, die, step, Legal}
use Rattle.one_stream.proofs.Events.{full_of, causes, live_before}
use Rattle.one_stream.proofs.Histories.{Strand}
use Rattle.one_stream.proofs.Twice.{Lost, AnyLost, Twice, data_conf, data_code2, conf_code2}
use Rattle.one_stream.proofs.Books.{Paced, Times, FrameOk, Books}
use Rattle.one_stream.proofs.Chain.{Over, Past, NotDelivered, AllOrNone, Works, Inv}
use Rattle.one_stream.specs.TwoM.{Fit, Slot, empty, held, two_m}
use Rattle.one_stream.proofs.TwoMWhy.{WasSent, World, Flaw, When, refused, timed_out, Cause, Why, untouched, gave_abort, heard_abort}
use Rattle.one_stream.proofs.TwoMWhy.{delivered, SlotOk, Slots}
use Rattle.one_stream.proofs.TwoMSteps.{later_cause, no_flaw, data_slots, conf_cause, conf_new, conf_slots, die_slots, give_slots, code2_slots}
use Rattle.one_stream.proofs.TwoMSteps.{tick_slots, tick_new}

-- the message was delivered once, its stamp and dd + 1 ticks after
abbrev pub DeliveredAt : (S : Delays) → State (two_m S) → (ℕ → List Note) → ℕ → Type 0
DeliveredAt S w base i =
    (s : ℕ) × Stamped w.data_sent i s
    × ((w.receiver i).log ≡ record { at = s + S.dd + 1; bytes = w.message } ∷ base i)

module _ (S : Delays) (fit : Fit S) where
  cause_keep_here : (w : World S) (a : Bool) (base : ℕ → List Note) → Books S (two_m S) (Cause S) w a → Slots S w a base
      → (e : Event) → Legal (two_m S) S w e → Paced S (two_m S) w e → (t : Moment) (m : Bytes)
      → ((i : ℕ) → t i ≤ w.now i) → Cause S w t m → Cause S (step (two_m S) w e) t m
  unfolding step Legal
  cause_keep_here w a base b s (send_data hears full) l p t m past c =
      absurd (no_flaw S fit w a base b s l.2 l.3 c.flaw)
  cause_keep_here w a base b s (send_conf hears full) l p t m past c = conf_cause S fit w a base b s hears full l t m c
  cause_keep_here w a base b s (send_code2 q k hears full) l p t m past c =
      later_cause S w w.now (step (two_m S) w (send_code2 q k hears full)).receiver (λ i. omega arith)
      (live_before S (two_m S) w (send_code2 q k hears full)) t m c
  cause_keep_here w a base b s (give q) l p t m past c =
      later_cause S w w.now (step (two_m S) w (give q)).receiver (λ i. omega arith)
      (live_before S (two_m S) w (give q)) t m c
  cause_keep_here w a base b s (tick reached) l p t m past c =
      later_cause S w (move reached w.now) (step (two_m S) w (tick reached)).receiver (move_later reached w.now)
      (live_before S (two_m S) w (tick reached)) t m c
  cause_keep_here w a base b s (die q) l p t m past c =
      later_cause S w w.now (step (two_m S) w (die q)).receiver (λ i. omega arith)
      (live_before S (two_m S) w (die q)) t m c

  cause_new_here : (w : World S) (a : Bool) (base : ℕ → List Note) → Books S (two_m S) (Cause S) w a → Slots S w a base
      → (e : Event) → Legal (two_m S) S w e → Paced S (two_m S) w e → (i : ℕ) → T (causes S (two_m S) w e i)
      → Cause S (step (two_m S) w e) (step (two_m S) w e).now []
  cause_new_here w a base b s (send_data hears full) l p i c = absurd c
  cause_new_here w a base b s (send_conf hears full) l p i c = conf_new S fit w a base b s hears full l i c
  cause_new_here w a base b s (send_code2 q k hears full) l p i c = absurd c
  cause_new_here w a base b s (give q) l p i c = absurd c
  cause_new_here w a base b s (tick reached) l p i c = tick_new S fit w a base b s reached l p i c
  cause_new_here w a base b s (die q) l p i c = absurd c

  flaw_data : (w : World S) → Flaw S w → Some w.data_sent
  flaw_data w (inl d) = omitted_some w.data_sent d.short
  flaw_data w (inr c) = c.some

  cause_over_here : (w : World S) → Times S (two_m S) w → (t : Moment) (m : Bytes) → Cause S w t m → (i : ℕ) → Live w i
      → Over S (two_m S) w i → t i + S.ra < w.now i
  cause_over_here w k t m c i li o = go c.when (k.sent_data (flaw_data w c.flaw))
    where
      go : When S w t → DataTimes S.rd w.requested w.now w.data_sent → t i + S.ra < w.now i
      go (refused x) d = omega (arith, x i, d.order i, d.reach i, o, fit.deliver_after_abort)
      go (timed_out cf x) d = omega (arith, x i li, d.reach i, o, fit.deliver_after_abort)

  keep : (w : World S) (a : Bool) (base : ℕ → List Note) → Books S (two_m S) (Cause S) w a → Slots S w a base
      → (e : Event) → Legal (two_m S) S w e → Paced S (two_m S) w e
      → Books S (two_m S) (Cause S) (step (two_m S) w e) (full_of e || a)
      → Slots S (step (two_m S) w e) (full_of e || a) base
  unfolding Legal
  keep w a base b s (send_data hears full) l p b' = data_slots S fit w a base b s hears full l.0 l.2 l.3
  keep w a base b s (send_conf hears full) l p b' = conf_slots S fit w a base b s hears full l
  keep w a base b s (send_code2 q k hears full) l p b' = code2_slots S fit w a base b s q k hears full l
  keep w a base b s (give q) l p b' = give_slots S fit w a base b s q l
  keep w a base b s (tick reached) l p b' = tick_slots S fit w a base b s reached l
  keep w a base b s (die q) l p b' = die_slots S fit w a base b s q l

  idle_slot : (w : World S) (a : Bool) (base : ℕ → List Note) → Books S (two_m S) (Cause S) w a → (i : ℕ) (s : Slot)
      → SlotOk S w a i s (w.receiver i).frames (w.receiver i).log (base i) → Past S (two_m S) w i → s ≡ empty
  idle_slot w a base b i empty k p = refl
  idle_slot w a base b i (held s true m) (k, o, c) (inl n) = absurd (n k.stamped.some)
  idle_slot w a base b i (held s false m) (k, o, c) (inl n) = absurd (n k.stamped.some)
  idle_slot w a base b i (held s true m) (k, o, c) (inr x) =
      let z : ⊥ = omega (arith, x, o, k.stamped.high, (b.times.sent_data k.stamped.some).reach i) in absurd z
  idle_slot w a base b i (held s false m) (k, o, c) (inr x) =
      let t = b.times.sent_data k.stamped.some in
      let z : ⊥ = omega (arith, x, o, k.stamped.high, t.reach i, fit.deliver_after_abort) in absurd z

  start : (w : World S) → w.data_sent ≡ never → w.conf_sent ≡ never → ((i : ℕ) → (w.receiver i).frames ≡ [])
      → ((i : ℕ) → Live w i → (w.receiver i).slot ≡ empty) → Slots S w false (λ i. (w.receiver i).log)
  start w d c fr id =
      record {
        sent_conf = λ s. absurd (never_some w.conf_sent c s);
        flawed = λ t. absurd t;
        each = λ i lv.
            rw (id i lv)
            (untouched (λ f. never_some w.data_sent d (full_some w.data_sent f))
            (λ f. never_some w.conf_sent c (full_some w.conf_sent f)) refl);
      }

  -- ── the end of a message: without two omissions ──
  module _ (w : World S) (a : Bool) (base : ℕ → List Note) (b : Books S (two_m S) (Cause S) w a)
      (sl : Slots S w a base) (once : Twice S (two_m S) w → ⊥) where
    abbrev Ok : Bool → Frame → Type 0
    Ok live = FrameOk S (two_m S) (Cause S) w a live

    abbrev WhyAt : ℕ → Type 0
    WhyAt i = Why S w a i (w.receiver i).frames (w.receiver i).log (base i)

    -- once the confirmation was sent, no abort is lost too
    not_lost : (q : ℕ) → Flaw S w → Some w.conf_sent → AnyLost S w.now (w.receiver q).frames → ⊥
    not_lost q (inl d) c x = once (data_code2 d.short (inl c) q x)
    not_lost q (inr f) c x = once (conf_code2 (omitted w.conf_sent c f.short) f.at f.over q x)

    module _ (i : ℕ) (live : Live w i) (over : Over S (two_m S) w i) where
      -- a frame that was sent had a full sending, or is lost
      sent_or_lost : (v : Bool) (f : Frame) → Ok v f → Some f.sendings → T a ⊎ Lost S w.now f
      sent_or_lost v f k s = go (decide_full f.sendings)
        where
          go : Full f.sendings ⊎ (Full f.sendings → ⊥) → T a ⊎ Lost S w.now f
          go (inl x) = inl (k.noted x)
          go (inr n) =
              inr (record {
                short = omitted f.sendings s n;
                at = i;
                over = cause_over_here w b.times f.since f.bytes k.cause i live over;
              })

      any_lost : (v : Bool) → (T a → ⊥) → (fs : List Frame) → Each (Ok v) fs → Any WasSent fs → AnyLost S w.now fs
      any_lost v na [] e s = s
      any_lost v na (f ∷ fs) e (inl s) = go (sent_or_lost v f e.0 s)
        where
          go : T a ⊎ Lost S w.now f → AnyLost S w.now (f ∷ fs)
          go (inl t) = absurd (na t)
          go (inr x) = inl x
      any_lost v na (f ∷ fs) e (inr s) = inr (any_lost v na fs e.1 s)

      -- a live module's abort was sent once its time is over
      must_send : (v : Bool) → T v → (fs : List Frame) → Each (Ok v) fs → NonEmpty fs → Any WasSent fs × Flaw S w
      must_send v tv [] e n = absurd n
      must_send v tv (f ∷ fs) e n = go (decide_some f.sendings)
        where
          go : Some f.sendings ⊎ (Some f.sendings → ⊥) → Any WasSent (f ∷ fs) × Flaw S w
          go (inl s) = (inl s, e.0.cause.flaw)
          go (inr n) =
              let o = cause_over_here w b.times f.since f.bytes e.0.cause i live over in
              let z : ⊥ = omega (arith, e.0.served tv n i, o) in absurd z

      -- no abort had a full sending, and the confirmation was sent: delivered
      one_delivery : (T a → ⊥) → Some w.conf_sent → WhyAt i → DeliveredAt S w base i
      one_delivery na c (untouched nd ncf e) =
          let d = sl.sent_conf c in
          let k = b.times.sent_data d in
          absurd (once (data_conf (omitted w.data_sent d nd) (omitted w.conf_sent c ncf) i
          (omega (arith, k.order i, k.reach i, fit.deliver_after_abort))))
      one_delivery na c (gave_abort ne e) =
          let r = w.receiver i in
          let m = must_send r.live live r.frames (b.frames i) ne in
          absurd (not_lost i m.1 c (any_lost r.live na r.frames (b.frames i) m.0))
      one_delivery na c (heard_abort q s fw e) =
          let r = w.receiver q in
          absurd (not_lost q fw c (any_lost r.live na r.frames (b.frames q) s))
      one_delivery na c (delivered s st x c' na' nf e) = (s, st, e)

    no_delivery : (T a ⊎ (Some w.conf_sent → ⊥)) → (i : ℕ) → WhyAt i → NotDelivered (two_m S) w base i
    no_delivery h i (untouched nd ncf e) = e
    no_delivery h i (gave_abort ne e) = e
    no_delivery h i (heard_abort q s fw e) = e
    no_delivery (inl t) i (delivered s st x c na nf e) = absurd (once (na t))
    no_delivery (inr n) i (delivered s st x c na nf e) = absurd (n c)

    why_idle : (i : ℕ) → Live w i → Past S (two_m S) w i → WhyAt i
    why_idle i live p =
        subst (λ x. SlotOk S w a i x (w.receiver i).frames (w.receiver i).log (base i))
        (idle_slot w a base b i (w.receiver i).slot (sl.each i live) p) (sl.each i live)

    pub all_or_none_law : ((i : ℕ) → Live w i → Over S (two_m S) w i → DeliveredAt S w base i)
        ⊎ ((i : ℕ) → Live w i → Over S (two_m S) w i → NotDelivered (two_m S) w base i)
    all_or_none_law = go (decide_some w.conf_sent) (decide a)
      where
        go : Some w.conf_sent ⊎ (Some w.conf_sent → ⊥) → T a ⊎ (T a → ⊥)
            → ((i : ℕ) → Live w i → Over S (two_m S) w i → DeliveredAt S w base i)
            ⊎ ((i : ℕ) → Live w i → Over S (two_m S) w i → NotDelivered (two_m S) w base i)
        go (inr n) t = inr (λ i l o. no_delivery (inr n) i (why_idle i l (inr o)))
        go (inl c) (inl t) = inr (λ i l o. no_delivery (inl t) i (why_idle i l (inr o)))
        go (inl c) (inr na) = inl (λ i l o. one_delivery i l o na c (why_idle i l (inr o)))

    no_flaw_here : Full w.data_sent → Full w.conf_sent → Flaw S w → ⊥
    no_flaw_here d c (inl x) = full_not_omitted w.data_sent d x.short
    no_flaw_here d c (inr x) = x.short c

    pub all_if_full_law : Full w.data_sent → Full w.conf_sent
        → (i : ℕ) → Live w i → Over S (two_m S) w i → DeliveredAt S w base i
    all_if_full_law d c i l o =
        one_delivery i l o (λ t. no_flaw_here d c (sl.flawed t)) (full_some w.conf_sent c) (why_idle i l (inr o))

    judge : AllOrNone S (two_m S) w base
    judge = go (decide_some w.data_sent) all_or_none_law
      where
        over : Some w.data_sent → (i : ℕ) → Past S (two_m S) w i → Over S (two_m S) w i
        over d i (inl n) = absurd (n d)
        over d i (inr o) = o

        no_confirmation : (Some w.data_sent → ⊥) → Some w.conf_sent → ⊥
        no_confirmation n c = n (sl.sent_conf c)

        go : Some w.data_sent ⊎ (Some w.data_sent → ⊥)
            → ((i : ℕ) → Live w i → Over S (two_m S) w i → DeliveredAt S w base i)
            ⊎ ((i : ℕ) → Live w i → Over S (two_m S) w i → NotDelivered (two_m S) w base i)
            → AllOrNone S (two_m S) w base
        go (inr n) x = inr (λ i l p. no_delivery (inr (no_confirmation n)) i (why_idle i l p))
        go (inl d) (inl all) = inl (λ i l p. let z = all i l (over d i p) in (z.0 + S.dd + 1, z.2))
        go (inl d) (inr none) = inr (λ i l p. none i l (over d i p))

  pub two_mworks : Works S (two_m S)
  two_mworks =
      record {
        Cause = Cause S;
        Slots = Slots S;
        reaches = omega (arith, fit.deliver_after_abort);
        calm = λ n. refl;
        ready_some = λ d x. x;
        done_some = λ d x. x;
        done_keep = λ now full d nf n x. n (some_resend now full d);
        cause_keep = cause_keep_here;
        cause_new = cause_new_here;
        cause_data = λ w t m c. flaw_data w c.flaw;
        cause_bytes = λ w t m c. c.bytes;
        cause_over = cause_over_here;
        keep = keep;
        idle = λ w a base b s i live p. idle_slot w a base b i (w.receiver i).slot (s.each i live) p;
        judge = judge;
        start = start;
      }

  -- what the invariant of a whole history says of 2M
  module _ (Z : Strand (two_m S)) (a : Bool) (base : ℕ → List Note) (v : Inv S (two_m S) two_mworks Z a base) where
    pub books_of : Books S (two_m S) (Cause S) Z.state a
    unfolding two_mworks
    books_of = v.books

    pub slots_of : Slots S Z.state a base
    unfolding two_mworks
    slots_of = v.slots
