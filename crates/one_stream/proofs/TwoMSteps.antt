-- 2M: the invariant is kept, one kind of event after the other.
use Prim.Native.Nat.{ℕ, suc, ◌+◌, ◌-◌, ◌≤◌, ◌<◌}
use native.Mathlib.Omega.{arith}
use mathlib.Core.Path.{◌≡◌, refl, sym, subst}
use mathlib.Core.Logic.{◌⊎◌, inl, inr}
use mathlib.Core.Bool.{Bool, true, false, not, ◌&&◌, ◌||◌, cond}
use mathlib.Core.List.{List, [], ◌∷◌}
use lib.Dec.{T, eqb, eqb_refl, eqb→eq, ltb→lt, nltb→le, T_not}
use Rattle.one_stream.proofs.Truth.{cond_elim, and_l, and_r, or_not, not_second}
use Rattle.one_stream.specs.Sendings.{Bytes, Moment, move, Delays, Some, Full, first, Within, Fullness}
use Rattle.one_stream.proofs.Sendings.{move_later, move_reached, move_missed, some_resend, full_resend, omitted, decide_full, missed_short}
use Rattle.one_stream.proofs.Sendings.{Stamped, stamp_new, stamp_keep}
use Rattle.one_stream.specs.Frames.{Frame, add_frame, send_at, bytes_at, Each, Any, At, NonEmpty, Waiting, MaySend}
use Rattle.one_stream.proofs.Frames.{Stable, each_none, at_some, at_each, add_some, give_some, some_give, send_some, sent_any}
use Rattle.one_stream.specs.Classes.{Note, Receiver, Live, send_data, send_conf, send_code2, give, tick, die, hear_data, hear_conf, hear_code2}
use Rattle.one_stream.specs.Classes.{ticked, send_own, give_own, dead, with_receivers, step, Legal}
use Rattle.one_stream.proofs.Events.{causes, live_before, any_step}
use Rattle.one_stream.proofs.Twice.{Twice, data_conf, twice_stays}
use Rattle.one_stream.proofs.Books.{Paced, Holding, FrameOk, Books}
use Rattle.one_stream.specs.TwoM.{Fit, Slot, empty, held, data_slot, conf_slot, is_empty, late, due, bytes_of, same_bytes, two_m}
use Rattle.one_stream.proofs.TwoMWhy.{WasSent, World, ConfFlaw, Flaw, When, refused, timed_out, Cause, Why, untouched, gave_abort}
use Rattle.one_stream.proofs.TwoMWhy.{heard_abort, delivered, SlotOk, ReceiverOk, Slots}

same_refl : (b : Bytes) → same_bytes b b ≡ true
same_refl [] = refl
same_refl (x ∷ xs) = and_true (eqb x x) (same_bytes xs xs) (eqb_refl x) (same_refl xs)
  where
    and_true : (t u : Bool) → T t → u ≡ true → (t && u) ≡ true
    and_true true u h e = e
    and_true false u h e = absurd h

-- a duplicate moves the stamp, and nothing else
duplicate : (n s : ℕ) (c : Bool) (m : Bytes) → data_slot n m (held s c m) ≡ held n c m
duplicate n s c m = rw same_refl

-- the tests are strict: late and due are what is older than the delay, and nothing else
module _ (S : Delays) (n s : ℕ) (b : Bytes) where
  late_older : T (late S n (held s false b)) → S.dc < n - s
  late_older t = omega (arith, ltb→lt)

  not_late : T (not (late S n (held s false b))) → n - s ≤ S.dc
  not_late t = omega (arith, nltb→le)

  due_older : T (due S n (held s true b)) → S.dd < n - s
  due_older t = omega (arith, ltb→lt)

  not_due : T (not (due S n (held s true b))) → n - s ≤ S.dd
  not_due t = omega (arith, nltb→le)

was_stable : (S : Delays) (now : Moment) (full : Bool) → Stable S now full WasSent
was_stable S now full = record { given = λ f x. x; again = λ f m x. some_resend now full f.sendings }

note_path : (n m : ℕ) (b c : Bytes) (l k : List Note) → n ≡ m → b ≡ c → l ≡ k
    → ◌≡◌ {A = List Note} (record { at = n; bytes = b } ∷ l) (record { at = m; bytes = c } ∷ k)
note_path n m b c l k p q r = cc

-- ── events that leave the data's and the confirmation's sendings alone ──
abbrev pub later : (S : Delays) → World S → Moment → (ℕ → Receiver (two_m S)) → World S
later S w now receiver = with_receivers (two_m S) now receiver w

module _ (S : Delays) (w : World S) (now' : Moment) (recv' : ℕ → Receiver (two_m S))
    (mono : (i : ℕ) → w.now i ≤ now' i) (live_before : (i : ℕ) → T (recv' i).live → Live w i) where
  pub later_conf_flaw : ConfFlaw S w → ConfFlaw S (later S w now' recv')
  later_conf_flaw c =
      record { some = c.some; short = c.short; at = c.at; over = omega (arith, c.over, mono c.at) }

  pub later_flaw : Flaw S w → Flaw S (later S w now' recv')
  later_flaw (inl d) = inl (record { short = d.short; over = d.over })
  later_flaw (inr c) = inr (later_conf_flaw c)

  later_when : (t : Moment) → When S w t → When S (later S w now' recv') t
  later_when t (refused x) = refused x
  later_when t (timed_out c x) = timed_out (later_conf_flaw c) (λ i l. x i (live_before i l))

  pub later_cause : (t : Moment) (m : Bytes) → Cause S w t m → Cause S (later S w now' recv') t m
  later_cause t m c = record { flaw = later_flaw c.flaw; when = later_when t c.when; bytes = c.bytes }

  module _ (a : Bool) (i : ℕ) (grow : (q : ℕ) → Any WasSent (w.receiver q).frames → Any WasSent (recv' q).frames)
      (tw : Twice S (two_m S) w → Twice S (two_m S) (later S w now' recv')) where
    pub later_why : (fs fs' : List Frame) (log base : List Note) → (NonEmpty fs → NonEmpty fs')
        → (NonEmpty fs' → NonEmpty fs) → Why S w a i fs log base → Why S (later S w now' recv') a i fs' log base
    later_why fs fs' log base to fro (untouched nd ncf e) = untouched nd ncf e
    later_why fs fs' log base to fro (gave_abort ne e) = gave_abort (to ne) e
    later_why fs fs' log base to fro (heard_abort q s fw e) = heard_abort q (grow q s) (later_flaw fw) e
    later_why fs fs' log base to fro (delivered s st o c n nf e) =
        delivered s st (omega (arith, o, mono i)) c (λ t. tw (n t)) (λ n. nf (fro n)) e

    later_held : (s : ℕ) (b : Bytes) (fs fs' : List Frame) (log base : List Note) → (NonEmpty fs' → NonEmpty fs)
        → Holding w.data_sent w.message a i s b fs log base
        → Holding w.data_sent w.message a i s b fs' log base
    later_held s b fs fs' log base fro k =
        record {
          stamped = k.stamped;
          bytes = k.bytes;
          no_frames = λ x. k.no_frames (fro x);
          no_full = k.no_full;
          no_delivery = k.no_delivery;
        }

    -- a slot that the event leaves alone, where no time passes at i
    pub later_slot : (s : Slot) (fs fs' : List Frame) (log base : List Note) → now' i ≡ w.now i
        → (NonEmpty fs → NonEmpty fs') → (NonEmpty fs' → NonEmpty fs) → SlotOk S w a i s fs log base
        → SlotOk S (later S w now' recv') a i s fs' log base
    later_slot empty fs fs' log base t to fro k = later_why fs fs' log base to fro k
    later_slot (held s true b) fs fs' log base t to fro (k, o, c) =
        (later_held s b fs fs' log base fro k, omega (arith, t, o), c)
    later_slot (held s false b) fs fs' log base t to fro (k, o, c) =
        (later_held s b fs fs' log base fro k, omega (arith, t, o), c)

module _ (S : Delays) (fit : Fit S) (w : World S) (a : Bool) (base : ℕ → List Note)
    (bk : Books S (two_m S) (Cause S) w a) (sl : Slots S w a base) where
  ok : (i : ℕ) → Live w i → ReceiverOk S w a i (w.receiver i) (base i)
  ok = sl.each

  -- while data may be sent there is no flaw, so no abort frame
  pub no_flaw : Within S.rd w.requested w.now → (Some w.conf_sent → ⊥) → Flaw S w → ⊥
  no_flaw reach nc (inl d) = nc d.over
  no_flaw reach nc (inr c) =
      let k = c.at in omega (arith, c.over, (bk.times.sent_data c.some).asked k, reach k, fit.confirm_after_data)

  module _ (hears : ℕ → Bool) (full : Bool) (fl : Fullness hears full)
      (reach : Within S.rd w.requested w.now) (nc : Some w.conf_sent → ⊥) where
    abbrev w_data : World S
    w_data = step (two_m S) w (send_data hears full)

    none : (i : ℕ) → NonEmpty (w.receiver i).frames → ⊥
    none i =
        each_none (FrameOk S (two_m S) (Cause S) w a (w.receiver i).live) (w.receiver i).frames (bk.frames i)
        (λ f o. no_flaw reach nc o.cause.flaw)

    data_heard : (i : ℕ) (s : Slot) (fs : List Frame) (log : List Note) → (NonEmpty fs → ⊥)
        → SlotOk S w a i s fs log (base i) → SlotOk S w_data a i (data_slot (w.now i) w.message s) fs log (base i)
    unfolding step
    data_heard i empty fs log n (untouched nd ncf e) = (
      record {
        stamped = stamp_new S.rd w.requested w.now full w.data_sent i bk.times.asked reach
            bk.times.sent_data;
        bytes = refl;
        no_frames = n;
        no_full = λ t. no_flaw reach nc (sl.flawed t);
        no_delivery = e;
      },
      omega arith,
      ncf,
    )
    data_heard i empty fs log n (gave_abort ne e) = absurd (n ne)
    data_heard i empty fs log n (heard_abort q s fw e) = absurd (no_flaw reach nc fw)
    data_heard i empty fs log n (delivered s st o c na nf e) = absurd (nc c)
    data_heard i (held s true b) fs log n (k, o, c) = absurd (nc c)
    data_heard i (held s false b) fs log n (k, o, ncf) =
        rw (k.bytes, duplicate (w.now i) s false w.message) (
          record {
            stamped = stamp_new S.rd w.requested w.now full w.data_sent i bk.times.asked reach
                bk.times.sent_data;
            bytes = refl;
            no_frames = n;
            no_full = k.no_full;
            no_delivery = k.no_delivery;
          },
          omega arith,
          ncf,
        )

    data_missed : (i : ℕ) (s : Slot) (fs : List Frame) (log : List Note) → (NonEmpty fs → ⊥) → (T full → ⊥)
        → SlotOk S w a i s fs log (base i) → SlotOk S w_data a i s fs log (base i)
    unfolding step
    data_missed i empty fs log n short (untouched nd ncf e) =
        untouched (λ f. short (full_resend w.now full w.data_sent f)) ncf e
    data_missed i empty fs log n short (gave_abort ne e) = absurd (n ne)
    data_missed i empty fs log n short (heard_abort q s fw e) = absurd (no_flaw reach nc fw)
    data_missed i empty fs log n short (delivered s st o c na nf e) = absurd (nc c)
    data_missed i (held s true b) fs log n short (k, o, c) = absurd (nc c)
    data_missed i (held s false b) fs log n short (k, o, ncf) = (
      record {
        stamped = stamp_keep S.rd w.requested w.now full w.data_sent i s short
            (bk.times.sent_data k.stamped.some) k.stamped;
        bytes = k.bytes;
        no_frames = n;
        no_full = k.no_full;
        no_delivery = k.no_delivery;
      },
      o,
      ncf,
    )

    pub data_slots : Slots S w_data a base
    unfolding step hear_data
    data_slots =
        record {
          sent_conf = λ s. absurd (nc s);
          flawed = λ t. absurd (no_flaw reach nc (sl.flawed t));
          each = λ i. cond_elim (λ (x : Receiver (two_m S)). T x.live → ReceiverOk S w_data a i x (base i))
              ((w.receiver i).live && hears i)
              (λ t l. data_heard i (w.receiver i).slot (w.receiver i).frames (w.receiver i).log (none i)
              (ok i l)) (λ t l. data_missed i (w.receiver i).slot (w.receiver i).frames (w.receiver i).log
              (none i) (missed_short hears full (w.receiver i).live i fl l t) (ok i l));
        }

  -- ── a sending of the confirmation ──
  module _ (hears : ℕ → Bool) (full : Bool) (l : Legal (two_m S) S w (send_conf hears full)) where
    abbrev w_conf : World S
    w_conf = step (two_m S) w (send_conf hears full)

    some : Some w.data_sent
    unfolding Legal
    some = l.2

    reach : Within S.dc (first w.data_sent) w.now
    unfolding Legal
    reach = l.3

    -- no confirmation is over yet
    not_over : ConfFlaw S w → ⊥
    not_over c = let k = c.at in omega (arith, c.over, reach k)

    conf_flaw : Flaw S w → Flaw S w_conf
    unfolding step
    conf_flaw (inl d) = inl (record { short = d.short; over = some_resend w.now full w.conf_sent })
    conf_flaw (inr c) = absurd (not_over c)

    conf_when : (t : Moment) → When S w t → When S w_conf t
    unfolding step
    conf_when t (refused x) = refused x
    conf_when t (timed_out c x) = absurd (not_over c)

    pub conf_cause : (t : Moment) (m : Bytes) → Cause S w t m → Cause S w_conf t m
    conf_cause t m c = record { flaw = conf_flaw c.flaw; when = conf_when t c.when; bytes = c.bytes }

    -- the flaw that makes an empty slot answer with an abort
    empty_flaw : (i : ℕ) (fs : List Frame) (log : List Note) (v : Bool) → Each (FrameOk S (two_m S) (Cause S) w a v) fs
        → Why S w a i fs log (base i) → Flaw S w_conf × (log ≡ base i)
    unfolding step
    empty_flaw i fs log v fr (untouched nd ncf e) =
        (inl (record { short = omitted w.data_sent some nd; over = some_resend w.now full w.conf_sent }), e)
    empty_flaw i [] log v fr (gave_abort ne e) = absurd ne
    empty_flaw i (f ∷ fs) log v fr (gave_abort ne e) = (conf_flaw fr.0.cause.flaw, e)
    empty_flaw i fs log v fr (heard_abort q s fw e) = (conf_flaw fw, e)
    empty_flaw i fs log v fr (delivered s st o c na nf e) =
        let z : ⊥ = omega (arith, o, reach i, st.low, fit.deliver_after_abort) in absurd z

    -- why an abort becomes pending at a confirmation
    conf_new_here : (i : ℕ) (s : Slot) → Live w i → SlotOk S w a i s (w.receiver i).frames (w.receiver i).log (base i)
        → T (is_empty s) → Cause S w_conf w.now []
    unfolding step
    conf_new_here i empty lv k t =
        record {
          flaw = (empty_flaw i (w.receiver i).frames (w.receiver i).log (w.receiver i).live (bk.frames i) k
              ).0;
          when = refused reach;
          bytes = refl;
        }
    conf_new_here i (held s c b) lv k t = absurd t

    conf_grow : (q : ℕ) → Any WasSent (w.receiver q).frames → Any WasSent (w_conf.receiver q).frames
    conf_grow q = any_step S (two_m S) w (send_conf hears full) l q WasSent (was_stable S w.now false)

    conf_heard : (i : ℕ) (s : Slot) (fs : List Frame) (log : List Note) (v p : Bool)
        → Each (FrameOk S (two_m S) (Cause S) w a v) fs → (T p → Waiting fs) → SlotOk S w a i s fs log (base i)
        → SlotOk S w_conf a i (conf_slot s) (add_frame (is_empty s) p w.now [] fs) log (base i)
    unfolding step
    conf_heard i empty fs log v p fr pn k = gave_abort (add_some p w.now [] fs pn) (empty_flaw i fs log v fr k).1
    conf_heard i (held s true b) fs log v p fr pn (k, o, c) = (k, o, some_resend w.now full w.conf_sent)
    conf_heard i (held s false b) fs log v p fr pn (k, o, ncf) =
        (k, omega (arith, fit.deliver_after_abort), some_resend w.now full w.conf_sent)

    conf_missed : (i : ℕ) (s : Slot) (fs : List Frame) (log : List Note) → (T full → ⊥)
        → SlotOk S w a i s fs log (base i) → SlotOk S w_conf a i s fs log (base i)
    unfolding step
    conf_missed i empty fs log short (untouched nd ncf e) =
        untouched nd (λ f. short (full_resend w.now full w.conf_sent f)) e
    conf_missed i empty fs log short (gave_abort ne e) = gave_abort ne e
    conf_missed i empty fs log short (heard_abort q s fw e) = heard_abort q (conf_grow q s) (conf_flaw fw) e
    conf_missed i empty fs log short (delivered s st o c na nf e) =
        let z : ⊥ = omega (arith, o, reach i, st.low, fit.deliver_after_abort) in absurd z
    conf_missed i (held s true b) fs log short (k, o, c) = (k, o, some_resend w.now full w.conf_sent)
    conf_missed i (held s false b) fs log short (k, o, ncf) =
        (k, o, λ f. short (full_resend w.now full w.conf_sent f))

    pub conf_new : (i : ℕ) → T (causes S (two_m S) w (send_conf hears full) i) → Cause S w_conf w_conf.now []
    unfolding step
    conf_new i c =
        let t = and_l ((w.receiver i).live && hears i) (is_empty (w.receiver i).slot) c in
        let lv = and_l (w.receiver i).live (hears i) t in
        conf_new_here i (w.receiver i).slot lv (ok i lv)
        (and_r ((w.receiver i).live && hears i) (is_empty (w.receiver i).slot) c)

    pub conf_slots : Slots S w_conf a base
    unfolding step hear_conf Legal
    conf_slots =
        record {
          sent_conf = λ s. some;
          flawed = λ t. conf_flaw (sl.flawed t);
          each = λ i. cond_elim (λ (x : Receiver (two_m S)). T x.live → ReceiverOk S w_conf a i x (base i))
              ((w.receiver i).live && hears i)
              (λ t lv. conf_heard i (w.receiver i).slot (w.receiver i).frames (w.receiver i).log
              (w.receiver i).live (w.receiver i).pending (bk.frames i) (bk.waits i lv) (ok i lv))
              (λ t lv. conf_missed i (w.receiver i).slot (w.receiver i).frames (w.receiver i).log
              (missed_short hears full (w.receiver i).live i l.0 lv t) (ok i lv));
        }

  -- ── giving out and death: no slot, log or time changes ──
  record Quiet (r r' : Receiver (two_m S)) : Type 0 where
    slot : r'.slot ≡ r.slot
    log : r'.log ≡ r.log
    some : NonEmpty r.frames → NonEmpty r'.frames
    was : NonEmpty r'.frames → NonEmpty r.frames

  quiet : (r : Receiver (two_m S)) → Quiet r r
  quiet r = record { slot = refl; log = refl; some = λ x. x; was = λ x. x }

  module _ (recv' : ℕ → Receiver (two_m S)) (before : (i : ℕ) → T (recv' i).live → Live w i)
      (grow : (p : ℕ) → Any WasSent (w.receiver p).frames → Any WasSent (recv' p).frames)
      (tw : Twice S (two_m S) w → Twice S (two_m S) (later S w w.now recv'))
      (same : (i : ℕ) → T (recv' i).live → Quiet (w.receiver i) (recv' i)) where
    quiet_slots : Slots S (later S w w.now recv') a base
    quiet_slots =
        record {
          sent_conf = sl.sent_conf;
          flawed = λ t. later_flaw S w w.now recv' (λ i. omega arith) before (sl.flawed t);
          each = λ i lv.
              let k = same i lv in
              let r = w.receiver i in
              rw (k.slot, k.log)
              (later_slot S w w.now recv' (λ i. omega arith) before a i grow tw r.slot r.frames (recv' i).frames r.log (base i) refl
              k.some k.was (ok i (before i lv)));
        }

  pub die_slots : (q : ℕ) → Legal (two_m S) S w (die q) → Slots S (step (two_m S) w (die q)) a base
  unfolding step dead
  die_slots q l =
      quiet_slots (step (two_m S) w (die q)).receiver (live_before S (two_m S) w (die q))
      (λ p. any_step S (two_m S) w (die q) l p WasSent (was_stable S w.now false)) (twice_stays S (two_m S) w (die q) l)
      (λ i. cond_elim (λ (x : Receiver (two_m S)). T x.live → Quiet (w.receiver i) x) (eqb i q) (λ t lv. absurd lv)
      (λ t lv. quiet (w.receiver i)))

  pub give_slots : (q : ℕ) → Legal (two_m S) S w (give q) → Slots S (step (two_m S) w (give q)) a base
  unfolding step give_own
  give_slots q l =
      quiet_slots (step (two_m S) w (give q)).receiver (live_before S (two_m S) w (give q))
      (λ p. any_step S (two_m S) w (give q) l p WasSent (was_stable S w.now false)) (twice_stays S (two_m S) w (give q) l)
      (λ i. cond_elim (λ (x : Receiver (two_m S)). T x.live → Quiet (w.receiver i) x) (eqb i q)
      (λ t lv. record { slot = refl; log = refl; some = give_some (w.receiver i).frames; was = some_give (w.receiver i).frames })
      (λ t lv. quiet (w.receiver i)))

  -- ── a sending of an abort ──
  module _ (q k : ℕ) (hears : ℕ → Bool) (full : Bool) (l : Legal (two_m S) S w (send_code2 q k hears full)) where
    abbrev w_abort : World S
    w_abort = step (two_m S) w (send_code2 q k hears full)

    abbrev a_abort : Bool
    a_abort = full || a

    may : At (MaySend S w.now) k (w.receiver q).frames
    unfolding Legal
    may = l.2

    it : (f : Frame) × MaySend S w.now f × FrameOk S (two_m S) (Cause S) w a (w.receiver q).live f
        × (bytes_at k (w.receiver q).frames ≡ f.bytes)
    it =
        at_each (MaySend S w.now) (FrameOk S (two_m S) (Cause S) w a (w.receiver q).live) k
        (w.receiver q).frames may (bk.frames q)

    -- a live receiver that has delivered while an abort may still be sent: only after two omissions
    too_late : (i s : ℕ) → Live w i → Stamped w.data_sent i s → s + S.dd < w.now i → Some w.conf_sent
        → When S w it.0.since → Twice S (two_m S) w
    too_late i s lv st o c (refused x) =
        let z : ⊥ = omega (arith, x i, it.1.reach i, st.low, fit.deliver_after_abort) in absurd z
    too_late i s lv st o c (timed_out cf x) = go (decide_full w.data_sent)
      where
        go : Full w.data_sent ⊎ (Full w.data_sent → ⊥) → Twice S (two_m S) w
        go (inl f) =
            let z : ⊥ = omega (arith, x i lv, it.1.reach i, st.exact f, fit.deliver_after_abort) in absurd z
        go (inr n) =
            data_conf (omitted w.data_sent st.some n) (omitted w.conf_sent c cf.short) cf.at cf.over

    abort_grow : (p : ℕ) → Any WasSent (w.receiver p).frames → Any WasSent (w_abort.receiver p).frames
    abort_grow p = any_step S (two_m S) w (send_code2 q k hears full) l p WasSent (was_stable S w.now full)

    abort_sent : Any WasSent (w_abort.receiver q).frames
    unfolding step send_own
    abort_sent =
        cond_elim (λ (x : Receiver (two_m S)). Any WasSent x.frames) (eqb q q)
        (λ t. sent_any w.now full (MaySend S w.now) WasSent k (w.receiver q).frames
        (λ f m. some_resend w.now full f.sendings) may) (λ t. absurd (T_not (eqb q q) t (eqb_refl q)))

    abort_twice : Twice S (two_m S) w → Twice S (two_m S) w_abort
    abort_twice = twice_stays S (two_m S) w (send_code2 q k hears full) l

    abort_flaw : Flaw S w → Flaw S w_abort
    unfolding step
    abort_flaw =
        later_flaw S w w.now w_abort.receiver (λ i. omega arith)
        (live_before S (two_m S) w (send_code2 q k hears full))

    abort_why : (i : ℕ) (fs fs' : List Frame) (log : List Note) → Live w i → (NonEmpty fs → NonEmpty fs')
        → (NonEmpty fs' → NonEmpty fs) → Why S w a i fs log (base i) → Why S w_abort a_abort i fs' log (base i)
    unfolding step
    abort_why i fs fs' log lv to fro (untouched nd ncf e) = untouched nd ncf e
    abort_why i fs fs' log lv to fro (gave_abort ne e) = gave_abort (to ne) e
    abort_why i fs fs' log lv to fro (heard_abort p s fw e) = heard_abort p (abort_grow p s) (abort_flaw fw) e
    abort_why i fs fs' log lv to fro (delivered s st o c n nf e) =
        delivered s st o c (λ t. abort_twice (too_late i s lv st o c it.2.cause.when)) (λ x. nf (fro x)) e

    own_slot : (i : ℕ) (s : Slot) (fs fs' : List Frame) (log : List Note) → Live w i → NonEmpty fs → NonEmpty fs'
        → SlotOk S w a i s fs log (base i) → SlotOk S w_abort a_abort i s fs' log (base i)
    own_slot i empty fs fs' log lv ne ne' k = abort_why i fs fs' log lv (λ x. ne') (λ x. ne) k
    own_slot i (held s true b) fs fs' log lv ne ne' (k, o, c) = absurd (k.no_frames ne)
    own_slot i (held s false b) fs fs' log lv ne ne' (k, o, c) = absurd (k.no_frames ne)

    abort_heard : (i : ℕ) (s : Slot) (fs : List Frame) (log : List Note) → Live w i → SlotOk S w a i s fs log (base i)
        → Why S w_abort a_abort i fs log (base i)
    abort_heard i empty fs log lv k = abort_why i fs fs log lv (λ x. x) (λ x. x) k
    abort_heard i (held s true b) fs log lv (k, o, c) =
        heard_abort q abort_sent (abort_flaw it.2.cause.flaw) k.no_delivery
    abort_heard i (held s false b) fs log lv (k, o, c) =
        heard_abort q abort_sent (abort_flaw it.2.cause.flaw) k.no_delivery

    short_held : (i s : ℕ) (b : Bytes) (fs : List Frame) (log : List Note) → (T full → ⊥)
        → Holding w.data_sent w.message a i s b fs log (base i)
        → Holding w.data_sent w.message a_abort i s b fs log (base i)
    short_held i s b fs log short k =
        record {
          stamped = k.stamped;
          bytes = k.bytes;
          no_frames = k.no_frames;
          no_full = or_not full a short k.no_full;
          no_delivery = k.no_delivery;
        }

    abort_missed : (i : ℕ) (s : Slot) (fs : List Frame) (log : List Note) → Live w i → (T full → ⊥)
        → SlotOk S w a i s fs log (base i) → SlotOk S w_abort a_abort i s fs log (base i)
    unfolding step
    abort_missed i empty fs log lv short k = abort_why i fs fs log lv (λ x. x) (λ x. x) k
    abort_missed i (held s true b) fs log lv short (k, o, c) = (short_held i s b fs log short k, o, c)
    abort_missed i (held s false b) fs log lv short (k, o, c) = (short_held i s b fs log short k, o, c)

    pub code2_slots : Slots S w_abort a_abort base
    unfolding step Legal send_own hear_code2
    code2_slots = record { sent_conf = sl.sent_conf; flawed = λ t. abort_flaw it.2.cause.flaw; each = each_ok }
      where
        Ok : ℕ → Receiver (two_m S) → Type 0
        Ok i x = T x.live → ReceiverOk S w_abort a_abort i x (base i)

        each_ok : (i : ℕ) → Ok i (w_abort.receiver i)
        each_ok i =
            let r = w.receiver i in
            let fs = send_at w.now full k r.frames in
            cond_elim (Ok i) (eqb i q)
            (λ t lv.
            let ne : NonEmpty r.frames =
            subst (λ j. NonEmpty (w.receiver j).frames) (sym (eqb→eq i q t))
            (at_some (MaySend S w.now) k (w.receiver q).frames may) in
            let own = own_slot i r.slot r.frames fs r.log lv ne (send_some w.now full k r.frames ne) (ok i lv) in
            cond_elim (λ s. SlotOk S w_abort a_abort i s fs r.log (base i)) full (λ f. own) (λ f. own))
            (λ t. cond_elim (Ok i) (r.live && hears i)
            (λ u lv. abort_heard i r.slot r.frames r.log lv (ok i lv))
            (λ u lv.
            abort_missed i r.slot r.frames r.log lv (missed_short hears full r.live i l.0 lv u) (ok i lv)))

  -- ── a tick ──
  module _ (reached : ℕ → Bool) (l : Legal (two_m S) S w (tick reached)) where
    abbrev w_ticked : World S
    w_ticked = step (two_m S) w (tick reached)

    tick_grow : (q : ℕ) → Any WasSent (w.receiver q).frames → Any WasSent (w_ticked.receiver q).frames
    tick_grow q = any_step S (two_m S) w (tick reached) l q WasSent (was_stable S w.now false)

    tick_twice : Twice S (two_m S) w → Twice S (two_m S) w_ticked
    tick_twice = twice_stays S (two_m S) w (tick reached) l

    -- a slot that the tick does not reach
    tick_missed : (i : ℕ) (s : Slot) (fs : List Frame) (log : List Note) → T (not (reached i))
        → SlotOk S w a i s fs log (base i) → SlotOk S w_ticked a i s fs log (base i)
    unfolding step
    tick_missed i s fs log u k =
        later_slot S w (move reached w.now) w_ticked.receiver (move_later reached w.now)
        (live_before S (two_m S) w (tick reached)) a i tick_grow tick_twice s fs fs log (base i)
        (move_missed (reached i) (w.now i) u) (λ x. x) (λ x. x) k

    -- a confirmed slot, by whether it is due
    tick_due : (i s : ℕ) (b : Bytes) (fs : List Frame) (log : List Note) (t : Bool) → T (reached i)
        → (T t → S.dd < suc (w.now i) - s) → (T (not t) → suc (w.now i) - s ≤ S.dd)
        → SlotOk S w a i (held s true b) fs log (base i)
        → SlotOk S w_ticked a i (cond t empty (held s true b)) fs
        (cond t (record { at = suc (w.now i); bytes = b } ∷ log) log) (base i)
    unfolding step
    tick_due i s b fs log true u is_due if_not_due (k, o, c) =
        let m = move_reached (reached i) (w.now i) u in
        let y = is_due tt in
        delivered s k.stamped (rw m (omega arith)) c (λ t. absurd (k.no_full t)) k.no_frames
        (note_path (suc (w.now i)) (s + S.dd + 1) b w.message log (base i) (omega arith) k.bytes
        k.no_delivery)
    tick_due i s b fs log false u is_due if_not_due (k, o, c) =
        let m = move_reached (reached i) (w.now i) u in
        let y = if_not_due tt in
        (k, rw m (omega arith), c)

    -- an unconfirmed slot, by whether it is late
    tick_late : (i s : ℕ) (b : Bytes) (fs : List Frame) (log : List Note) (p t : Bool) → T (reached i)
        → (T p → Waiting fs) → (T (not t) → suc (w.now i) - s ≤ S.dc)
        → SlotOk S w a i (held s false b) fs log (base i)
        → SlotOk S w_ticked a i (cond (t || false) empty (held s false b))
        (add_frame t p (move reached w.now) [] fs) log (base i)
    unfolding step
    tick_late i s b fs log p true u pn if_not_late (k, o, c) =
        gave_abort (add_some p (move reached w.now) [] fs pn) k.no_delivery
    tick_late i s b fs log p false u pn if_not_late (k, o, c) =
        let m = move_reached (reached i) (w.now i) u in
        let y = if_not_late tt in
        (k, rw m (omega arith), c)

    tick_heard : (i : ℕ) (s : Slot) (fs : List Frame) (log : List Note) (p : Bool) → T (reached i)
        → (T p → Waiting fs) → SlotOk S w a i s fs log (base i)
        → SlotOk S w_ticked a i (cond (late S (suc (w.now i)) s || due S (suc (w.now i)) s) empty s)
        (add_frame (late S (suc (w.now i)) s) p (move reached w.now) [] fs)
        (cond (due S (suc (w.now i)) s) (record { at = suc (w.now i); bytes = bytes_of s } ∷ log) log) (base i)
    unfolding step
    tick_heard i empty fs log p u pn k =
        later_why S w (move reached w.now) w_ticked.receiver (move_later reached w.now)
        (live_before S (two_m S) w (tick reached)) a i tick_grow tick_twice fs fs log (base i) (λ x. x) (λ x. x) k
    tick_heard i (held s true b) fs log p u pn k =
        tick_due i s b fs log (due S (suc (w.now i)) (held s true b)) u (due_older S (suc (w.now i)) s b)
        (not_due S (suc (w.now i)) s b) k
    tick_heard i (held s false b) fs log p u pn k =
        tick_late i s b fs log p (late S (suc (w.now i)) (held s false b)) u pn (not_late S (suc (w.now i)) s b) k

    pub tick_slots : Slots S w_ticked a base
    unfolding step ticked
    tick_slots =
        record {
          sent_conf = sl.sent_conf;
          flawed = λ t. later_flaw S w (move reached w.now) w_ticked.receiver (move_later reached w.now)
              (live_before S (two_m S) w (tick reached)) (sl.flawed t);
          each = λ i. cond_elim (λ (x : Receiver (two_m S)). T x.live → ReceiverOk S w_ticked a i x (base i))
              ((w.receiver i).live && reached i)
              (λ t lv. tick_heard i (w.receiver i).slot (w.receiver i).frames (w.receiver i).log
              (w.receiver i).pending (and_r (w.receiver i).live (reached i) t) (bk.waits i lv) (ok i lv))
              (λ t lv. tick_missed i (w.receiver i).slot (w.receiver i).frames (w.receiver i).log
              (not_second (w.receiver i).live (reached i) lv t) (ok i lv));
        }

    -- why an abort becomes pending at a tick
    late_new : Paced S (two_m S) w (tick reached) → (i : ℕ) (s : Slot) → Live w i → T (reached i)
        → SlotOk S w a i s (w.receiver i).frames (w.receiver i).log (base i) → T (late S (suc (w.now i)) s)
        → Cause S w_ticked w_ticked.now []
    unfolding step
    late_new p i empty lv u k t = absurd t
    late_new p i (held s true b) lv u k t = absurd t
    late_new p i (held s false b) lv u (k, o, c) t =
        let y = late_older S (suc (w.now i)) s b t in
        let m : move reached w.now i ≡ suc (w.now i) = move_reached (reached i) (w.now i) u in
        let cf : ConfFlaw S w_ticked = record {
          some = k.stamped.some;
          short = c;
          at = i;
          over = omega (arith, m, y, k.stamped.low);
        } in
        record {
          flaw = inr cf;
          when = timed_out cf (λ j lj. omega (
            arith,
            m,
            o,
            p k.stamped.some j i
                (live_before S (two_m S) w (tick reached) j lj) lv,
            k.stamped.high,
          ));
          bytes = refl;
        }

    pub tick_new : Paced S (two_m S) w (tick reached) → (i : ℕ) → T (causes S (two_m S) w (tick reached) i)
        → Cause S w_ticked w_ticked.now []
    tick_new p i c =
        let x = and_l ((w.receiver i).live && reached i) (late S (suc (w.now i)) (w.receiver i).slot) c in
        let lv = and_l (w.receiver i).live (reached i) x in
        late_new p i (w.receiver i).slot lv (and_r (w.receiver i).live (reached i) x) (ok i lv)
        (and_r ((w.receiver i).live && reached i) (late S (suc (w.now i)) (w.receiver i).slot) c)
