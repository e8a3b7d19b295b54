-- Message after message, for every class: what a class proves of itself, and the invariant of a stream's whole history.
use Prim.Native.Nat.{ℕ, zero, suc, ◌+◌, ◌-◌, ◌≤◌, ◌<◌}
use native.Mathlib.Omega.{arith}
use mathlib.Core.Path.{◌≡◌, refl, subst, ◌∙◌}
use mathlib.Core.Logic.{◌⊎◌, inl, inr}
use mathlib.Core.Bool.{Bool, true, false, not, ◌&&◌, ◌||◌}
use mathlib.Core.List.{List, [], ◌∷◌, ◌++◌}
use lib.Dec.{T, ltb, ltb→lt, T_not}
use Rattle.one_stream.specs.Sendings.{Bytes, Moment, move, Delays, Sent, never, resend, Some, Full}
use Rattle.one_stream.proofs.Sendings.{move_later, move_reached, never_some}
use Rattle.one_stream.specs.Frames.{Frame, Each, At, Waiting, MaySend}
use Rattle.one_stream.specs.Classes.{Note, Class, State, Live, Event, send_data, send_conf, send_code2, give, tick, die, step, Legal}
use Rattle.one_stream.proofs.Events.{full_of, causes, live_before}
use Rattle.one_stream.proofs.Histories.{Strand, Act, opens, ticks, sender_dies, on, NoOpens, opened, with_state, age_at, act, Common, Apart}
use Rattle.one_stream.proofs.Histories.{MayAct, acts, Keeps, Fresh}
use Rattle.one_stream.proofs.Twice.{Twice}
use Rattle.one_stream.proofs.Books.{Paced, Times, FrameOk, Books, books_step}

-- module i has counted past the message
abbrev pub Over : (S : Delays) (C : Class) → State C → ℕ → Type 0
Over S C w i = w.requested i + C.hold < w.now i + S.e

-- nothing was ever sent, or the module has counted past the message
abbrev pub Past : (S : Delays) (C : Class) → State C → ℕ → Type 0
Past S C w i = (Some w.data_sent → ⊥) ⊎ Over S C w i

-- since `base` the message was delivered once, and nothing else; or nothing was
abbrev pub DeliveredOnce : (C : Class) → State C → (ℕ → List Note) → ℕ → Type 0
DeliveredOnce C w base i = (at : ℕ) × ((w.receiver i).log ≡ record { at = at; bytes = w.message } ∷ base i)

abbrev pub NotDelivered : (C : Class) → State C → (ℕ → List Note) → ℕ → Type 0
NotDelivered C w base i = (w.receiver i).log ≡ base i

-- of the live receivers that have counted past the message
abbrev pub AllOrNone : (S : Delays) (C : Class) → State C → (ℕ → List Note) → Type 0
AllOrNone S C w base =
    ((i : ℕ) → Live w i → Past S C w i → DeliveredOnce C w base i) ⊎ ((i : ℕ) → Live w i → Past S C w i → NotDelivered C w base i)

-- What a class proves of itself. Cause: why a frame of code 2 became pending at a moment with these bytes. Slots: why each
-- slot is as it is; its Boolean says whether a frame of code 2 had a full sending, its logs are those at the request.
pub record Works (S : Delays) (C : Class) : Type 1 where
  pub Cause : State C → Moment → Bytes → Type 0
  pub Slots : State C → Bool → (ℕ → List Note) → Type 0
  -- the hold is longer than the reaches of data and confirmation, and a drift; an idle slot makes nothing pending at a tick
  pub reaches : S.rd + S.dc + S.e ≤ C.hold
  pub calm : (n : ℕ) → C.late n C.idle ≡ false
  pub ready_some : (d : Sent) → C.Ready d → Some d
  pub done_some : (d : Sent) → C.Done d → Some d
  pub done_keep : (now : Moment) (full : Bool) (d : Sent) → (Full d → ⊥) → (C.Done (resend now full d) → ⊥) → C.Done d → ⊥
  -- a cause stays; a new frame has one
  pub cause_keep : (w : State C) (a : Bool) (base : ℕ → List Note) → Books S C Cause w a → Slots w a base
      → (e : Event) → Legal C S w e → Paced S C w e
      → (t : Moment) (m : Bytes) → ((i : ℕ) → t i ≤ w.now i) → Cause w t m → Cause (step C w e) t m
  pub cause_new : (w : State C) (a : Bool) (base : ℕ → List Note) → Books S C Cause w a → Slots w a base
      → (e : Event) → Legal C S w e → Paced S C w e
      → (i : ℕ) → T (causes S C w e i) → Cause (step C w e) (step C w e).now (C.payload (w.receiver i).slot)
  -- it needs a sending of the data, and its reach ends before the message is over
  pub cause_data : (w : State C) (t : Moment) (m : Bytes) → Cause w t m → Some w.data_sent
  pub cause_bytes : (w : State C) (t : Moment) (m : Bytes) → Cause w t m → m ≡ C.carried w.message
  pub cause_over : (w : State C) → Times S C w → (t : Moment) (m : Bytes) → Cause w t m
      → (i : ℕ) → Live w i → Over S C w i → t i + S.ra < w.now i
  -- the slots
  pub keep : (w : State C) (a : Bool) (base : ℕ → List Note) → Books S C Cause w a → Slots w a base
      → (e : Event) → Legal C S w e → Paced S C w e → Books S C Cause (step C w e) (full_of e || a)
      → Slots (step C w e) (full_of e || a) base
  pub idle : (w : State C) (a : Bool) (base : ℕ → List Note) → Books S C Cause w a → Slots w a base
      → (i : ℕ) → Live w i → Past S C w i → (w.receiver i).slot ≡ C.idle
  -- without two omissions: all or none
  pub judge : (w : State C) (a : Bool) (base : ℕ → List Note) → Books S C Cause w a → Slots w a base
      → (Twice S C w → ⊥) → AllOrNone S C w base
  pub start : (w : State C) → w.data_sent ≡ never → w.conf_sent ≡ never → ((i : ℕ) → (w.receiver i).frames ≡ [])
      → ((i : ℕ) → Live w i → (w.receiver i).slot ≡ C.idle) → Slots w false (λ i. (w.receiver i).log)

-- an event that opens no message
abbrev pub Stays : Act → Type 0
Stays (opens b) = ⊥
Stays (ticks r) = Unit {0}
Stays sender_dies = Unit {0}
Stays (on e) = Unit {0}

stays_head : (x : Act) (xs : List Act) → NoOpens (x ∷ xs) → Stays x × NoOpens xs
stays_head (opens b) xs n = absurd n
stays_head (ticks r) xs n = (tt, n)
stays_head sender_dies xs n = (tt, n)
stays_head (on e) xs n = (tt, n)

-- a hold that a tick leaves on, or a message that is over, as the test of the tick says
hold_tick : (hold over : Bool) (requested now X : ℕ) → (T over → X < now - requested) → T hold ⊎ (requested + X < now)
    → T (hold && not over) ⊎ (requested + X < now)
hold_tick true true requested now X f o = let y = f tt in inr (omega arith)
hold_tick true false requested now X f o = inl tt
hold_tick false over requested now X f (inl o) = absurd o
hold_tick false over requested now X f (inr o) = inr o

module _ (S : Delays) (C : Class) (W : Works S C) where
  -- the sender has counted past the hold
  abbrev pub HoldOver : Strand C → (ℕ → ℕ) → Type 0
  HoldOver Z now = Z.state.requested Z.sender + C.hold < now Z.sender

  pub record Inv (Z : Strand C) (a : Bool) (base : ℕ → List Note) : Type 0 where
    pub books : Books S C W.Cause Z.state a
    pub slots : W.Slots Z.state a base
    pub before : T (not Z.begun) → Some Z.state.data_sent → ⊥
    pub held : T Z.begun → T Z.up → T Z.hold ⊎ HoldOver Z Z.state.now
    pub pace : T Z.up → (i : ℕ) → Live Z.state i
        → Z.state.now Z.sender + Z.state.requested i ≤ Z.state.now i + Z.state.requested Z.sender + S.e

  -- one event of a message
  event_keeps : (w : State C) (a : Bool) (base : ℕ → List Note) → Books S C W.Cause w a → W.Slots w a base
      → (e : Event) → Legal C S w e → Paced S C w e
      → Books S C W.Cause (step C w e) (full_of e || a) × W.Slots (step C w e) (full_of e || a) base
  event_keeps w a base b s e l p =
      let b' =
      books_step S C W.Cause W.done_keep w a e l b (W.cause_keep w a base b s e l p) (W.cause_new w a base b s e l p)
      p in
      (b', W.keep w a base b s e l p b')

  module _ (Z : Strand C) (a : Bool) (base : ℕ → List Note) (v : Inv Z a base) where
    -- a common tick keeps every stretch as it was
    pub stretch : (r : ℕ → Bool) → Common C Z r ⊎ Apart C S Z r → Apart C S Z r
    stretch r (inr x) = x
    stretch r (inl c) =
        record {
          receivers = λ s i j x y. omega (arith, up i (c.receivers i x), up j (c.receivers j y), v.books.times.even s i j x y);
          sender = λ u i x. omega (arith, up i (c.receivers i x), up Z.sender (c.sender u), v.pace u i x);
        }
      where
        up : (i : ℕ) → T (r i) → move r Z.state.now i ≡ suc (Z.state.now i)
        up i t = move_reached (r i) (Z.state.now i) t

    hold_later : (now : Moment) → ((i : ℕ) → Z.state.now i ≤ now i) → T Z.hold ⊎ HoldOver Z Z.state.now
        → T Z.hold ⊎ HoldOver Z now
    hold_later now m (inl h) = inl h
    hold_later now m (inr o) = inr (omega (arith, o, m Z.sender))

    keep_tick : (r : ℕ → Bool) → MayAct C S Z (ticks r) → Inv (act C Z (ticks r)) a base
    unfolding act step Legal
    keep_tick r (c, m) =
        let now = move r Z.state.now in
        let z = event_keeps Z.state a base v.books v.slots (tick r) m (stretch r c).receivers in
        record {
          books = z.0;
          slots = z.1;
          before = v.before;
          held = λ x u.
              hold_tick Z.hold (ltb C.hold (age_at C Z now)) (Z.state.requested Z.sender) (now Z.sender) C.hold
              (ltb→lt C.hold (age_at C Z now)) (hold_later now (move_later r Z.state.now) (v.held x u));
          pace = λ u i l. (stretch r c).sender u i (live_before S C Z.state (tick r) i l);
        }

    -- an event that moves no count and leaves the time of the request alone
    on_event : (e : Event) → Legal C S Z.state e → Paced S C Z.state e
        → (step C Z.state e).now ≡ Z.state.now → (step C Z.state e).requested ≡ Z.state.requested
        → (T (not Z.begun) → Some (step C Z.state e).data_sent → ⊥) → Inv (with_state C (step C Z.state e) Z) (full_of e || a) base
    on_event e l p now requested before =
        let z = event_keeps Z.state a base v.books v.slots e l p in
        record {
          books = z.0;
          slots = z.1;
          before = before;
          held = rw (now, requested) v.held;
          pace = λ u i l. rw (now, requested) (v.pace u i (live_before S C Z.state e i l));
        }

    keep_on : (e : Event) → MayAct C S Z (on e) → Inv (act C Z (on e)) (full_of e || a) base
    unfolding act step Legal
    keep_on (send_data hears full) m = on_event (send_data hears full) m.1 tt refl refl (λ n. absurd (T_not Z.begun n m.0))
    keep_on (send_conf hears full) m = on_event (send_conf hears full) m tt refl refl v.before
    keep_on (send_code2 q k hears full) m = on_event (send_code2 q k hears full) m tt refl refl v.before
    keep_on (give q) m = on_event (give q) m tt refl refl v.before
    keep_on (tick r) m = absurd m
    keep_on (die q) m = on_event (die q) m tt refl refl v.before

    pub act_keeps : (x : Act) → MayAct C S Z x → Stays x → (a' : Bool) × Inv (act C Z x) a' base
    unfolding act
    act_keeps (opens b) m s = absurd s
    act_keeps sender_dies m s =
        (a, record { books = v.books; slots = v.slots; before = v.before; held = λ x u. absurd u; pace = λ u. absurd u })
    act_keeps (ticks r) m s = (a, keep_tick r m)
    act_keeps (on e) m s = (full_of e || a, keep_on e m)

    -- ── a live receiver that has counted past the message: no frame of code 2 may be sent, and each is done ──
    past_frame : (i : ℕ) → Live Z.state i → Past S C Z.state i
        → (f : Frame) → FrameOk S C W.Cause Z.state a (Z.state.receiver i).live f
        → (f.since i + S.ra < Z.state.now i) × ((C.Done f.sendings → ⊥) → ⊥)
    past_frame i l (inl n) f k = absurd (n (W.cause_data Z.state f.since f.bytes k.cause))
    past_frame i l (inr o) f k =
        let x : f.since i + S.ra < Z.state.now i =
        W.cause_over Z.state v.books.times f.since f.bytes k.cause i l o in
        (x, λ n. omega (arith, k.served l n i, x))

    pub closed_code2 : (q k : ℕ) (hears : ℕ → Bool) (full : Bool) → (Live Z.state q → Past S C Z.state q)
        → Legal C S Z.state (send_code2 q k hears full) → ⊥
    unfolding Legal
    closed_code2 q k hears full past (fl, lq, may) = go k (Z.state.receiver q).frames may (v.books.frames q)
      where
        go : (k : ℕ) (fs : List Frame) → At (MaySend S Z.state.now) k fs
            → Each (FrameOk S C W.Cause Z.state a (Z.state.receiver q).live) fs → ⊥
        go k [] m e = m
        go zero (f ∷ fs) m e = omega (arith, m.reach q, (past_frame q lq (past lq) f e.0).0)
        go (suc k) (f ∷ fs) m e = go k fs m e.1

    -- ── a module has counted past the message: neither data nor confirmation may be sent any more ──
    module _ (i : ℕ) (over : Over S C Z.state i) (hears : ℕ → Bool) (full : Bool) where
      pub closed_data : Legal C S Z.state (send_data hears full) → ⊥
      unfolding Legal
      closed_data l = omega (arith, l.2 i, W.reaches)

      pub closed_conf : Legal C S Z.state (send_conf hears full) → ⊥
      unfolding Legal
      closed_conf l =
          let t = v.books.times.sent_data (W.ready_some Z.state.data_sent l.2) in
          omega (arith, l.3 i, t.order i, t.reach i, W.reaches)

    -- ── a live sender without a hold: every live receiver has counted past the message, and is idle ──
    module _ (up : T Z.up) (free : T (not Z.hold)) where
      pub hold_over : T Z.begun → HoldOver Z Z.state.now
      hold_over x = go (v.held x up)
        where
          go : T Z.hold ⊎ HoldOver Z Z.state.now → HoldOver Z Z.state.now
          go (inl h) = absurd (T_not Z.hold free h)
          go (inr o) = o

      over_all : T Z.begun → (i : ℕ) → Live Z.state i → Over S C Z.state i
      over_all x i l = omega (arith, hold_over x, v.pace up i l)

      pub past_all : (i : ℕ) → Live Z.state i → Past S C Z.state i
      past_all i l = go Z.begun (λ x. x) (λ x. x)
        where
          go : (b : Bool) → (T b → T Z.begun) → (T (not b) → T (not Z.begun)) → Past S C Z.state i
          go true to fro = inr (over_all (to tt) i l)
          go false to fro = inl (v.before (fro tt))

      no_waiting : (i : ℕ) → Live Z.state i → (fs : List Frame)
          → Each (FrameOk S C W.Cause Z.state a (Z.state.receiver i).live) fs → Waiting fs → ⊥
      no_waiting i l [] e x = x
      no_waiting i l (f ∷ fs) e x = (past_frame i l (past_all i l) f e.0).1 (λ d. x.1 (W.done_some f.sendings d))

      pub none_pending : (i : ℕ) → Live Z.state i → T (Z.state.receiver i).pending → ⊥
      none_pending i l x = no_waiting i l (Z.state.receiver i).frames (v.books.frames i) (v.books.waits i l x)

      pub open_inv : (b : Bytes) → Inv (act C Z (opens b)) false (λ i. (Z.state.receiver i).log)
      unfolding act
      open_inv b =
          record {
            books = record {
              times = record { asked = λ i. omega arith; sent_data = λ x. absurd x; even = λ x. absurd x };
              frames = λ i. tt;
              waits = λ i l x. absurd (none_pending i l x);
            };
            slots =
                W.start (opened C b Z.state) refl refl (λ i. refl)
                (λ i l. W.idle Z.state a base v.books v.slots i l (past_all i l));
            before = λ x. absurd x;
            held = λ x u. inl tt;
            pace = λ u i l. omega arith;
          }

  -- ── whole histories ──
  pub message_step : (w : State C) (e : Event) → (step C w e).message ≡ w.message
  unfolding step
  message_step w (send_data hears full) = refl
  message_step w (send_conf hears full) = refl
  message_step w (send_code2 q k hears full) = refl
  message_step w (give q) = refl
  message_step w (tick r) = refl
  message_step w (die q) = refl

  message_keep : (Z : Strand C) (x : Act) → Stays x → (act C Z x).state.message ≡ Z.state.message
  unfolding act
  message_keep Z (opens b) s = absurd s
  message_keep Z (ticks r) s = message_step Z.state (tick r)
  message_keep Z sender_dies s = refl
  message_keep Z (on e) s = message_step Z.state e

  -- events that open no message, with more to come
  window : (Z : Strand C) (a : Bool) (base : ℕ → List Note) → Inv Z a base → (xs ys : List Act) → Keeps C S Z (xs ++ ys) → NoOpens xs
      → (a' : Bool) × Inv (acts C Z xs) a' base × ((acts C Z xs).state.message ≡ Z.state.message)
  window Z a base v [] ys k n = (a, v, refl)
  window Z a base v (x ∷ xs) ys k n =
      let n' = stays_head x xs n in
      let w = act_keeps Z a base v x k.0 n'.0 in
      let r = window (act C Z x) w.0 base w.1 xs ys k.1 n'.1 in
      (r.0, r.1, r.2 ∙ message_keep Z x n'.0)

  -- one event of any kind
  any_act : (Z : Strand C) (a : Bool) (base : ℕ → List Note) → Inv Z a base → (x : Act) → MayAct C S Z x
      → (a' : Bool) × (base' : ℕ → List Note) × Inv (act C Z x) a' base'
  any_act Z a base v (opens b) m = (false, λ i. (Z.state.receiver i).log, open_inv Z a base v m.0 m.1 b)
  any_act Z a base v (ticks u) m = let r = act_keeps Z a base v (ticks u) m tt in (r.0, base, r.1)
  any_act Z a base v sender_dies m = let r = act_keeps Z a base v sender_dies m tt in (r.0, base, r.1)
  any_act Z a base v (on e) m = let r = act_keeps Z a base v (on e) m tt in (r.0, base, r.1)

  any_acts : (Z : Strand C) (a : Bool) (base : ℕ → List Note) → Inv Z a base → (xs ys : List Act) → Keeps C S Z (xs ++ ys)
      → (a' : Bool) × (base' : ℕ → List Note) × Inv (acts C Z xs) a' base' × Keeps C S (acts C Z xs) ys
  any_acts Z a base v [] ys k = (a, base, v, k)
  any_acts Z a base v (x ∷ xs) ys k =
      let r = any_act Z a base v x k.0 in
      any_acts (act C Z x) r.0 r.1 r.2 xs ys k.1

  pub fresh_inv : (Z : Strand C) → Fresh C Z → Inv Z false (λ i. (Z.state.receiver i).log)
  fresh_inv Z f =
      record {
        books = record {
          times = record {
            asked = λ i. omega (arith, f.same i);
            sent_data = λ s. absurd (never_some Z.state.data_sent f.no_data s);
            even = λ s. absurd (never_some Z.state.data_sent f.no_data s);
          };
          frames = λ i. rw (f.idle i).frames tt;
          waits = λ i l x. absurd (subst T (f.idle i).pending x);
        };
        slots = W.start Z.state f.no_data f.no_conf (λ i. (f.idle i).frames) (λ i l. (f.idle i).slot);
        before = λ n. never_some Z.state.data_sent f.no_data;
        held = λ x. absurd (subst T f.not_begun x);
        pace = λ u i l. omega (arith, f.same i, f.same Z.sender);
      }

  -- Z₀ is the start, then `pre`, the accepted request, `mid`, and whatever follows: the invariant when `mid` has happened
  pub after_request : (Z₀ : Strand C) → Fresh C Z₀ → (pre mid rest : List Act) (b : Bytes)
      → Keeps C S Z₀ (pre ++ (opens b ∷ (mid ++ rest)))
      → NoOpens mid
      → (let Z₃ = acts C (act C (acts C Z₀ pre) (opens b)) mid in
      (a : Bool) × Inv Z₃ a (λ i. ((acts C Z₀ pre).state.receiver i).log) × (Z₃.state.message ≡ b))
  after_request Z₀ f pre mid rest b keeps none =
      let r₁ = any_acts Z₀ false (λ i. (Z₀.state.receiver i).log) (fresh_inv Z₀ f) pre (opens b ∷ (mid ++ rest)) keeps in
      let v₂ = open_inv (acts C Z₀ pre) r₁.0 r₁.1 r₁.2 r₁.3.0.0 r₁.3.0.1 b in
      let r₃ =
      window (act C (acts C Z₀ pre) (opens b)) false (λ i. ((acts C Z₀ pre).state.receiver i).log) v₂ mid rest r₁.3.1
      none in
      (r₃.0, r₃.1, r₃.2 ∙ (unfold act in refl))
