-- The judgement of a message: from its request on no other is accepted while the hold lasts, and with one omission at most all live receivers
-- that have counted past it have delivered it once, or none has.
use Prim.Native.Nat.{ℕ, zero, suc, ◌+◌, ◌≤◌, ◌<◌}
use native.Mathlib.Omega.{arith}
use mathlib.Core.Path.{◌≡◌, refl, ap, sym, subst, ◌∙◌}
use mathlib.Core.Logic.{◌⊎◌, inl, inr}
use mathlib.Core.Bool.{Bool, true, false, not, cond}
use mathlib.Core.List.{List, [], ◌∷◌, ◌++◌, map}
use lib.Dec.{T, eqb→eq, leb→le, T_not, not_T}
use Rattle.wire.specs.declared.ids.Stream.{Stream}
use Rattle.one_stream.proofs.Chain.{Over, NotDelivered, AllOrNone, hold_over}
use Rattle.one_stream.proofs.Truth.{and_l, and_r, both}
use Rattle.one_stream.proofs.Twice.{AnyLost, Twice, data_conf, data_code2, conf_code2}
use Rattle.bench.specs.Bench.{Bench, Book, Frame, Delivery, no_book, module_at, is_live, book_of, now, Moment, same_stream}
use Rattle.bench.specs.Demands.{tick_count, delivered, live_receiver, accepts, none_accepted}
use Rattle.bench.specs.Events.{Event, asks, gives, sends, ticks, dies, step, run, is_accepted}
use Rattle.bench.specs.Lists.{nth}
use Rattle.bench.specs.Rules.{may, keeps_so_far, one, omission, count, count_all, omissions, one_omission}
use Rattle.bench.proofs.laws.SlotAfterCall.{same_stream_law, on_stream}
use Rattle.bench.proofs.laws.ModuleAfterEvent.{count_of, as_function, count_is}
use Rattle.bench.proofs.laws.TicksCounted.{live_back, count_step}
use Rattle.bench.proofs.message.SendingsSeen.{omits}
use Rattle.bench.proofs.message.ClassOnBench.{ClassOnBench}
use Rattle.bench.proofs.message.ModuleSeen.{to_frame, to_note, notes, view}
use Rattle.bench.proofs.message.SeenAfterOwnEvent.{Valid, valid_step, receivers_of, strand_of}
use Rattle.bench.proofs.message.MessageKept.{Track}
use Rattle.bench.proofs.message.RequestOpens.{logs_of, me_lives, sender_free}
use Rattle.bench.proofs.message.ThroughHistory.{it_accepts, track_step}
use Rattle.one_stream.specs.Sendings as OS
use Rattle.one_stream.specs.Classes as OC
use Rattle.one_stream.proofs.Histories as OH

-- ── the sender is busy: no request of the stream is accepted while its hold lasts ──
module _ {n : ℕ} {D : OS.Delays} (K : ClassOnBench n D) (s : Stream) (me : ℕ) (since : Moment) (p : List ℕ) (base : ℕ → List OC.Note) where
  -- by the sender's count the hold is not over
  abbrev Holding : Bench → ℕ → Type 0
  Holding b more = T (is_live me b) → count_of b me + more ≤ as_function since me + K.C.hold

  busy_sender : (b : Bench) → Valid n D s me b → Track K s me since p base b → Holding b 0 → (e : Event) → T (not (accepts s b e))
  busy_sender b v x bound (asks j z q) = not_T (accepts s b (asks j z q)) (λ o.
      let (e, t) = it_accepts s b j z q o in
      let t' = subst (λ y. T (is_accepted j y q b)) (sym e) t in
      let up = me_lives K s me q b v j t' in
      let over = hold_over D K.C K.works (strand_of K s me p b x.k x.hold) x.a base x.inv up
      (sender_free K s me since p base b v x j q t') tt in
      omega (arith, bound up, over, ap (λ l. as_function l me) x.own.asked))
  busy_sender b v x bound (gives j z c) = tt
  busy_sender b v x bound (sends z n w to) = tt
  busy_sender b v x bound ticks = tt
  busy_sender b v x bound (dies j) = tt

  pub none_while_held : (b : Bench) → Valid n D s me b → Track K s me since p base b → (h r : List Event) → T (keeps_so_far b (h ++ r))
      → Holding b (tick_count h) → T (none_accepted s b h)
  none_while_held b v x [] r k bound = tt
  none_while_held b v x (e ∷ es) r k bound =
      let none = busy_sender b v x (λ l. omega (arith, bound l)) e in
      both (not (accepts s b e)) (none_accepted s (step b e) es) none
      (none_while_held (step b e) (valid_step e v)
      (track_step K s me since p base b v x e (T_not (accepts s b e) none) (and_l (may b e) (keeps_so_far (step b e) (es ++ r)) k)) es r
      (and_r (may b e) (keeps_so_far (step b e) (es ++ r)) k) (λ l. omega (arith, bound (live_back b e me l), count_step b e me l)))

  -- ── the message is followed until another is accepted ──
  pub until_next : (b : Bench) → Valid n D s me b → Track K s me since p base b → (h r : List Event) → T (keeps_so_far b (h ++ r))
      → T (none_accepted s b h) → Valid n D s me (run b h) × Track K s me since p base (run b h) × T (keeps_so_far (run b h) r)
  until_next b v x [] r k none = (v, x, k)
  until_next b v x (e ∷ es) r k none =
      let here = and_l (not (accepts s b e)) (none_accepted s (step b e) es) none in
      until_next (step b e) (valid_step e v)
      (track_step K s me since p base b v x e (T_not (accepts s b e) here) (and_l (may b e) (keeps_so_far (step b e) (es ++ r)) k)) es r
      (and_r (may b e) (keeps_so_far (step b e) (es ++ r)) k) (and_r (not (accepts s b e)) (none_accepted s (step b e) es) none)

-- ── rule 2 ──
lost_count : (D : OS.Delays) (t : OS.Moment) (bytes : List ℕ) (fs : List Frame) → AnyLost D t (map (to_frame bytes) fs) → 1 ≤ count fs
unfolding to_frame
lost_count D t bytes [] l = absurd l
lost_count D t bytes (f ∷ fs) (inl x) = omega (arith, omits f x.short)
lost_count D t bytes (f ∷ fs) (inr x) = omega (arith, lost_count D t bytes fs x)

row_count : (q : ℕ) (rows : List (List Frame)) → count (nth [] q rows) ≤ count_all rows
row_count q [] = omega arith
row_count zero (row ∷ rows) = omega arith
row_count (suc q) (row ∷ rows) = omega (arith, row_count q rows)

module _ {n : ℕ} {D : OS.Delays} (K : ClassOnBench n D) (s : Stream) (me : ℕ) (p : List ℕ) (b : Bench) (k : Book) (hold : Bool)
    (rule2 : T (one_omission k)) where
  few : one (omission k.payload_frame) + one (omission k.confirmation) + count_all k.aborts ≤ 1
  few = leb→le (omissions k) 1 rule2

  lost_row : (q : ℕ) → AnyLost D (count_of b) (receivers_of K s me p b k.aborts q).frames → 1 ≤ count_all k.aborts
  unfolding view
  lost_row q l = omega (arith, row_count q k.aborts, lost_count D (count_of b) (K.C.carried p) (nth [] q k.aborts) l)

  pub never_twice : Twice D K.C (strand_of K s me p b k hold).state → ⊥
  never_twice (data_conf d c i x) = omega (arith, few, omits k.payload_frame d, omits k.confirmation c)
  never_twice (data_code2 d c q x) = omega (arith, few, omits k.payload_frame d, lost_row q x)
  never_twice (conf_code2 c i z q x) = omega (arith, few, omits k.confirmation c, lost_row q x)

-- ── the deliveries of a stream, as notes ──
abbrev as_delivery : Stream → OC.Note → Delivery
as_delivery s n = record { at = n.at; stream = s; payload = n.bytes }

notes_are : (s : Stream) (log : List Delivery) → on_stream s log ≡ map (as_delivery s) (notes s log)
notes_are s [] = refl
notes_are s (d ∷ ds) = go (same_stream d.stream s) (eqb→eq d.stream.0 s.0) (notes_are s ds)
  where
    go : (o : Bool) → (T o → d.stream.0 ≡ s.0) → on_stream s ds ≡ map (as_delivery s) (notes s ds)
        → cond o (d ∷ on_stream s ds) (on_stream s ds) ≡ map (as_delivery s) (map to_note (cond o (d ∷ on_stream s ds) (on_stream s ds)))
    go true e rest =
        ap (λ z. record { at = d.at; stream = z; payload = d.payload } ∷ on_stream s ds) (same_stream_law (e tt))
        ∙ ap (λ l. as_delivery s (to_note d) ∷ l) rest
    go false e rest = rest

-- ── the judgement, in b₃, of the message that was requested in b₁ ──
module _ {n : ℕ} {D : OS.Delays} (K : ClassOnBench n D) (s : Stream) (me : ℕ) (p : List ℕ) (b₁ b₃ : Bench)
    (x : Track K s me (now b₁) p (logs_of s b₁) b₃) where
  abbrev pub strand₃ : OH.Strand K.C
  strand₃ = strand_of K s me p b₃ x.k x.hold

  -- the module is a live receiver, and has counted past the message
  pub record Judges (i : ℕ) : Type 0 where
    pub receiver : T (live_receiver s b₃ i)
    pub counted : count_of b₁ i + K.C.hold < count_of b₃ i + D.e

  pub is_live_here : (i : ℕ) → Judges i → OC.Live strand₃.state i
  unfolding view
  is_live_here i j = j.receiver

  pub is_over_here : (i : ℕ) → Judges i → Over D K.C strand₃.state i
  is_over_here i j = omega (arith, j.counted, ap (λ l. as_function l i) x.own.asked, count_is i b₁.modules)

  abbrev pub DeliveredOnce : ℕ → Type 0
  DeliveredOnce i = (t : ℕ) × (delivered s i b₃ ≡ record { at = t; stream = s; payload = p } ∷ delivered s i b₁)

  abbrev pub DeliveredNot : ℕ → Type 0
  DeliveredNot i = delivered s i b₃ ≡ delivered s i b₁

  pub log_once : (i t : ℕ) → (strand₃.state.receiver i).log ≡ record { at = t; bytes = p } ∷ logs_of s b₁ i → DeliveredOnce i
  unfolding view
  log_once i t e = (
    t,
    notes_are s (module_at i b₃).log
        ∙ (ap (map (as_delivery s)) e
        ∙ ap (λ l. record { at = t; stream = s; payload = p } ∷ l) (sym (notes_are s (module_at i b₁).log))),
  )

  log_none : (i : ℕ) → NotDelivered K.C strand₃.state (logs_of s b₁) i → DeliveredNot i
  unfolding view
  log_none i e = notes_are s (module_at i b₃).log ∙ (ap (map (as_delivery s)) e ∙ sym (notes_are s (module_at i b₁).log))

  -- with one omission at most
  module _ (rule2 : T (one_omission (book_of s 0 b₃))) where
    pub once : Twice D K.C strand₃.state → ⊥
    once = never_twice K s me p b₃ x.k x.hold (subst (λ ks. T (one_omission (nth no_book 0 ks))) x.books rule2)

    pub judged_all_or_none : ((i : ℕ) → Judges i → DeliveredOnce i) ⊎ ((i : ℕ) → Judges i → DeliveredNot i)
    judged_all_or_none = go (K.works.judge strand₃.state x.a (logs_of s b₁) x.inv.books x.inv.slots once)
      where
        go : AllOrNone D K.C strand₃.state (logs_of s b₁) → ((i : ℕ) → Judges i → DeliveredOnce i) ⊎ ((i : ℕ) → Judges i → DeliveredNot i)
        go (inl all) = inl (λ i j. let (t, e) = all i (is_live_here i j) (inr (is_over_here i j)) in log_once i t e)
        go (inr none) = inr (λ i j. log_none i (none i (is_live_here i j) (inr (is_over_here i j))))
