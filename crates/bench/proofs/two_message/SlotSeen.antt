-- A node's slot of the two-message class, seen as the one-stream proof has it: what hearing each frame, giving one out and a tick make of it.
use Prim.Native.Nat.{ℕ, zero, suc, ◌+◌, ◌-◌, ◌≤◌}
use native.Mathlib.Omega.{arith}
use mathlib.Core.Path.{◌≡◌, refl, ap, sym, subst, ◌∙◌}
use mathlib.Core.Bool.{Bool, true, false, not, ◌&&◌, ◌||◌, cond, true≢false}
use mathlib.Core.List.{List, [], ◌∷◌}
use lib.ListN.{length, drop, replicate, length-take}
use lib.Seq.{take-append_seam}
use lib.Dec.{T, ltb, eqb, eqb_refl, eqb→eq}
use Rattle.wire.specs.declared.settings.Settings.{Settings}
use Rattle.node.specs.declared.slots.Slot.{Slot}
use Rattle.node.specs.declared.slots.Message.{Message}
use Rattle.wire.specs.Classes.{carries}
use Rattle.wire.specs.Frames.{max_payload}
use Rattle.wire.specs.Settings.{receives, is_two_message, is_imd}
use Rattle.node.specs.Clock.{unbounded}
use Rattle.node.specs.Hear.{data_heard, confirmation_heard, abort_heard, clashes, heard_by}
use Rattle.node.specs.NextFrame.{given_out, payload_for}
use Rattle.node.specs.Reachable.{KeptMessage}
use Rattle.node.specs.Slots.{is_receiver, payload_of, same, same_bytes}
use Rattle.node.specs.Tick.{late, due, hold_over, lapsed, tick_slot}
use Rattle.node.proofs.Choices.{either_way}
use Rattle.node.proofs.kept.EachSlot.{not_sender}
use Rattle.one_stream.proofs.Truth.{and_r, is_true}
use Rattle.one_stream.specs.Sendings as OS
use Rattle.one_stream.specs.TwoM as OM
use Rattle.bench.proofs.message.ClassOnBench.{to_delays, Receiving, newly, Becomes}

unfoldable pub held_in : Message → OM.Slot
held_in m = cond m.held (OM.held m.stamp m.confirmed (payload_of m)) OM.empty

abbrev pub held_by : Slot → OM.Slot
held_by x = held_in x.message

pub held_empty : (x : Slot) → x.message.held ≡ false → held_by x ≡ OM.empty
unfolding held_in
held_empty x e = rw e refl

-- what the slot holds, and whether an abort is pending
record Shows (h : OM.Slot) (p : Bool) (x : Slot) : Type 0 where
  holds : held_by x ≡ h
  pends : x.pending.abort ≡ p

-- an abort that is caused while one is pending is the same frame, and none has a payload
becomes : (D : OS.Delays) (x y : Slot) {h : OM.Slot} {caused : Bool} → Shows h (x.pending.abort || caused) y → Becomes (OM.two_m D) held_by x h caused y
unfolding payload_for
becomes D x y {h} {caused} k =
    record {
      holds = k.holds;
      pends = k.pends;
      enters = ap (λ p. p && not x.pending.abort) k.pends ∙ go x.pending.abort caused;
      carries = λ t. sym (either_way (λ l. l) (newly x y) refl refl);
    }
  where
    go : (p c : Bool) → ((p || c) && not p) ≡ (c && not (true && p))
    go true true = refl
    go true false = refl
    go false true = refl
    go false false = refl

or_false : (p : Bool) → p ≡ (p || false)
or_false true = refl
or_false false = refl

-- where no abort is caused
becomes_quietly : (D : OS.Delays) (x y : Slot) {h : OM.Slot} → Shows h x.pending.abort y → Becomes (OM.two_m D) held_by x h false y
becomes_quietly D x y {h} k = becomes D x y (subst (λ p. Shows h p y) (or_false x.pending.abort) k)

-- ── the node's test of a duplicate is the one on bytes ──
same_length : (a b : List ℕ) → T (OM.same_bytes a b) → length a ≡ length b
same_length [] [] t = refl
same_length [] (y ∷ ys) t = absurd t
same_length (x ∷ xs) [] t = absurd t
same_length (x ∷ xs) (y ∷ ys) t = ap suc (same_length xs ys (and_r (eqb x y) (OM.same_bytes xs ys) t))

same_tests : (a b : List ℕ) → same_bytes a b ≡ OM.same_bytes a b
unfolding same_bytes
same_tests [] [] = refl
same_tests [] (y ∷ ys) = refl
same_tests (x ∷ xs) [] = refl
same_tests (x ∷ xs) (y ∷ ys) = ap (λ t. eqb x y && t) (same_tests xs ys)

payload_length : (now : ℕ) (set : Settings) (m : Message) → KeptMessage now set m → length (payload_of m) ≡ m.len
payload_length now set m k = simp length-take (omega (arith, k.short, k.eight_bytes))

same_is : (now : ℕ) (set : Settings) (m : Message) → KeptMessage now set m → (p : List ℕ) → same m p ≡ OM.same_bytes (payload_of m) p
same_is now set m k p =
    ap (λ t. eqb m.len (length p) && t) (same_tests (payload_of m) p) ∙ go (OM.same_bytes (payload_of m) p) (same_length (payload_of m) p)
  where
    go : (t : Bool) → (T t → length (payload_of m) ≡ length p) → (eqb m.len (length p) && t) ≡ t
    go true e =
        ap (λ t. t && true) (is_true (eqb m.len (length p))
        (subst (λ n. T (eqb n (length p))) (payload_length now set m k)
        (subst (λ n. T (eqb (length (payload_of m)) n)) (e tt) (eqb_refl (length (payload_of m))))))
    go false e = go' (eqb m.len (length p))
      where
        go' : (t : Bool) → (t && false) ≡ false
        go' true = refl
        go' false = refl

-- ── hearing ──
data_shows : (now : ℕ) (x : Slot) → KeptMessage now x.settings x.message → (p : List ℕ)
    → Shows (OM.data_slot now p (held_by x)) x.pending.abort (cond (not (clashes 0 p x)) (heard_by now 0 p x) x)
unfolding held_in heard_by
data_shows now x k p = go x.message.held refl (same x.message p) refl (same_is now x.settings x.message k p)
  where
    go : (h : Bool) → x.message.held ≡ h → (t : Bool) → same x.message p ≡ t
        → same x.message p ≡ OM.same_bytes (payload_of x.message) p
        → Shows (OM.data_slot now p
        (cond x.message.held (OM.held x.message.stamp x.message.confirmed (payload_of x.message)) OM.empty))
        x.pending.abort (cond (not (x.message.held && not (same x.message p))) (data_heard now p x) x)
    go false e t f tests =
        record { holds = rw e (ap (OM.held now false) (take-append_seam p (drop (length p) (replicate max_payload 0)))); pends = rw e refl }
    go true e true f tests =
        let g : OM.same_bytes (payload_of x.message) p ≡ true = sym tests ∙ f in
        record { holds = rw (e, f, g) refl; pends = rw (e, f) refl }
    go true e false f tests =
        let g : OM.same_bytes (payload_of x.message) p ≡ false = sym tests ∙ f in
        record { holds = rw (e, f, g) refl; pends = rw (e, f) refl }

conf_shows : (now : ℕ) (x : Slot)
    → Shows (OM.conf_slot (held_by x)) (x.pending.abort || OM.is_empty (held_by x)) (heard_by now 1 [] x)
unfolding held_in heard_by
conf_shows now x = go x.message.held refl x.pending.abort refl
  where
    go : (h : Bool) → x.message.held ≡ h → (p : Bool) → x.pending.abort ≡ p
        → Shows (OM.conf_slot
        (cond x.message.held (OM.held x.message.stamp x.message.confirmed (payload_of x.message)) OM.empty))
        (x.pending.abort || OM.is_empty (cond x.message.held
        (OM.held x.message.stamp x.message.confirmed (payload_of x.message)) OM.empty))
        (confirmation_heard x)
    go true e true f = record { holds = rw e refl; pends = rw (e, f) refl }
    go true e false f = record { holds = rw e refl; pends = rw (e, f) refl }
    go false e true f = record { holds = rw e refl; pends = rw (e, f) refl }
    go false e false f = record { holds = rw e refl; pends = rw (e, f) refl }

abort_shows : (now : ℕ) (x : Slot) → Shows OM.empty x.pending.abort (heard_by now 2 [] x)
unfolding held_in heard_by
abort_shows now x = go x.message.held refl
  where
    go : (h : Bool) → x.message.held ≡ h → Shows OM.empty x.pending.abort (abort_heard x)
    go true e = record { holds = rw e refl; pends = rw e refl }
    go false e = record { holds = rw e refl; pends = rw e refl }

module _ (D : OS.Delays) (now : ℕ) (x : Slot) where
  pub data_becomes : KeptMessage now x.settings x.message → (p : List ℕ)
      → Becomes (OM.two_m D) held_by x (OM.data_slot now p (held_by x)) false (cond (not (clashes 0 p x)) (heard_by now 0 p x) x)
  data_becomes k p = becomes_quietly D x (cond (not (clashes 0 p x)) (heard_by now 0 p x) x) (data_shows now x k p)

  pub conf_becomes : Becomes (OM.two_m D) held_by x (OM.conf_slot (held_by x)) (OM.is_empty (held_by x)) (heard_by now 1 [] x)
  conf_becomes = becomes D x (heard_by now 1 [] x) (conf_shows now x)

  pub abort_becomes : Becomes (OM.two_m D) held_by x OM.empty false (heard_by now 2 [] x)
  abort_becomes = becomes_quietly D x (heard_by now 2 [] x) (abort_shows now x)

pub given_becomes : (x : Slot) → (held_by (given_out 2 x) ≡ held_by x) × ((given_out 2 x).pending.abort ≡ false)
unfolding given_out
given_becomes x = (refl, refl)

-- the class's row of the table
pub carries_two : (c : ℕ) → c ≤ 2 → carries 2 c ≡ true
unfolding carries
carries_two zero h = refl
carries_two (suc zero) h = refl
carries_two (suc (suc zero)) h = refl
carries_two (suc (suc (suc c))) h = let z : ⊥ = omega arith in absurd z

-- ── a tick ──
module _ {D : OS.Delays} (now : ℕ) (x : Slot) (k : Receiving 2 D now x) where
  abbrev t : ℕ
  t = now + 1

  abbrev h : OM.Slot
  h = held_by x

  abbrev age : ℕ
  age = t - x.message.stamp

  receiver : is_receiver x ≡ true
  receiver = is_true (is_receiver x) k.receiver

  two : is_two_message x.settings ≡ true
  two = is_true (is_two_message x.settings) k.settings.class

  late_is : late age x ≡ OM.late D t h
  unfolding late held_in
  late_is = rw (receiver, two) (go x.message.held x.message.confirmed) ∙ ap (λ S. OM.late S t h) k.settings.numbers
    where
      go : (h c : Bool) → (true && h && true && not c && ltb x.settings.dc age)
          ≡ OM.late (to_delays x.settings) t (cond h (OM.held x.message.stamp c (payload_of x.message)) OM.empty)
      go true true = refl
      go true false = refl
      go false true = refl
      go false false = refl

  pub due_is : due age x ≡ OM.due D t h
  unfolding due held_in
  due_is =
      rw (receiver, two) (go x.message.held x.message.confirmed (is_imd x.settings) imd_not)
      ∙ ap (λ S. OM.due S t h) k.settings.numbers
    where
      imd_not : is_imd x.settings ≡ false
      imd_not = rw (eqb→eq x.settings.class 2 k.settings.class) refl

      go : (h c i : Bool) → i ≡ false → (true && h && (i || true && c) && ltb x.settings.dd age)
          ≡ OM.due (to_delays x.settings) t (cond h (OM.held x.message.stamp c (payload_of x.message)) OM.empty)
      go true true false f = refl
      go true false false f = refl
      go false true false f = refl
      go false false false f = refl
      go h c true f = absurd (true≢false f)

  -- at a receiver no hold ends
  no_hold : hold_over age x ≡ false
  unfolding hold_over
  no_hold =
      let receiving = is_true (receives x.settings) (and_r x.used (receives x.settings) k.receiver) in
      rw (not_sender x.settings receiving) (none x.used)
    where
      none : (u : Bool) → ((u && false) && x.message.held && ltb (x.settings.rd + x.settings.dd) age) ≡ false
      none true = refl
      none false = refl

  tick_shows : Shows (cond (OM.late D t h || OM.due D t h) OM.empty h) (x.pending.abort || OM.late D t h) (tick_slot unbounded t x)
  unfolding lapsed held_in
  tick_shows = go (OM.late D t h) (OM.due D t h) late_is due_is
    where
      or_true : (p : Bool) → true ≡ (p || true)
      or_true true = refl
      or_true false = refl

      go : (l d : Bool) → late age x ≡ l → due age x ≡ d
          → Shows (cond (l || d) OM.empty h) (x.pending.abort || l) (tick_slot unbounded t x)
      go true d el ed = record { holds = rw el refl; pends = rw el (or_true x.pending.abort) }
      go false true el ed = record { holds = rw (el, ed) refl; pends = rw (el, ed) (or_false x.pending.abort) }
      go false false el ed = let eh = no_hold in record { holds = rw (el, ed, eh) refl; pends = rw (el, ed, eh) (or_false x.pending.abort) }

  pub tick_becomes : Becomes (OM.two_m D) held_by x (cond (OM.late D t h || OM.due D t h) OM.empty h) (OM.late D t h) (tick_slot unbounded t x)
  tick_becomes = becomes D x (tick_slot unbounded t x) tick_shows

  pub delivers_held : T (OM.due D t h) → payload_of x.message ≡ OM.bytes_of h
  unfolding held_in
  delivers_held = go x.message.held
    where
      go : (a : Bool) → (let h = cond a (OM.held x.message.stamp x.message.confirmed (payload_of x.message)) OM.empty in
          T (OM.due D t h) → payload_of x.message ≡ OM.bytes_of h)
      go true y = refl
      go false y = absurd y
