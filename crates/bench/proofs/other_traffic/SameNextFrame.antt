-- The next frame is no higher than any pending frame; so a node that has frames pending on one stream only gives out the frame
-- of it that another node gives out, which has the same slot for this stream and others besides.
use Prim.Native.Nat.{ℕ, ◌+◌, ◌*◌, ◌/◌, ◌≤◌}
use native.Mathlib.Omega.{arith}
use mathlib.Core.Path.{◌≡◌, refl, ap, sym, subst, ◌∙◌}
use mathlib.Core.Logic.{◌⊎◌, inl, inr}
use mathlib.Core.Bool.{Bool, true, false, cond, ◌&&◌}
use mathlib.Core.List.{List, [], ◌∷◌, ◌++◌}
use lib.Dec.{T, eqb, leb, eqb→eq}
use borrow.Author.Tests.{le-leb, ltb-false}
use Rattle.wire.specs.declared.ids.Stream.{Stream}
use Rattle.wire.specs.declared.ids.BusId.{BusId}
use Rattle.wire.specs.Identifiers.{max_stream, stream_of, code_of}
use Rattle.wire.specs.Settings.{is_plain}
use Rattle.wire.proofs.LegalSettings.{legal_tells}
use Rattle.node.specs.declared.slots.Slot.{Slot}
use Rattle.node.specs.declared.Node.{Node}
use Rattle.node.specs.Slots.{is_of, first}
use Rattle.node.specs.Nodes.{slot_of}
use Rattle.node.specs.Reachable.{Kept}
use Rattle.node.specs.NextFrame.{payload_for}
use Rattle.node.specs.OldLayout.{one, payload_code, pending_codes, ids_from, pending_in, pending_ids, give_by_id}
use Rattle.node.proofs.slot_order.LowestOfAll.{lowest_or_above, lowest_append}
use Rattle.node.proofs.slot_order.NextFrameInOrder.{next_by_id_cases}
use Rattle.one_stream.proofs.Truth.{cond_elim, and_r, both, is_true, so}
use Rattle.bench.specs.SetUp.{is_done}
use Rattle.bench.specs.Events.{lent}
use Rattle.bench.proofs.laws.SlotAfterCall.{Same, slot_kept, giving, IsPending, the_payload, the_confirmation, the_abort}
use Rattle.bench.proofs.laws.SlotAfterCall.{stream_of_slot, next_used, next_pending, next_bytes}
use Rattle.bench.proofs.laws.ModuleAfterEvent.{decide_stream}
use Rattle.bench.proofs.message.ThroughHistory.{Quiet, none_pending}

-- ── the lowest of a slot, and of the table ──
small_code : (x : Slot) {c : ℕ} → IsPending x c → c ≤ 3
small_code x (the_payload t) = cond_elim (λ n. n ≤ 3) (is_plain x.settings) (λ t. omega arith) (λ t. omega arith)
small_code x (the_confirmation t) = omega arith
small_code x (the_abort t) = omega arith

lowest_in_slot : (x : Slot) (stream : ℕ) {c : ℕ} → IsPending x c → lowest_or_above (ids_from stream (pending_codes x)) ≤ stream * 4 + c
unfolding lowest_or_above
lowest_in_slot x stream p = of p x.pending.payload x.pending.confirmation x.pending.abort (λ t. t) (λ t. t) (λ t. t)
  where
    code : ℕ
    code = payload_code x

    Low : (a b c : Bool) → ℕ → Type 0
    Low a b c k = lowest_or_above (ids_from stream (one a code ++ one b 1 ++ one c 2)) ≤ stream * 4 + k

    payload : (a b c : Bool) → T a → Low a b c code
    payload true true c t = omega arith
    payload true false c t = omega arith
    payload false b c t = absurd t

    confirmation : (a b c : Bool) → T b → Low a b c 1
    confirmation true true c t = omega arith
    confirmation false true c t = omega arith
    confirmation a false c t = absurd t

    abort : (a b c : Bool) → T c → Low a b c 2
    abort true true true t = omega arith
    abort true false true t = omega arith
    abort false true true t = omega arith
    abort false false true t = omega arith
    abort a b false t = absurd t

    of : {k : ℕ} → IsPending x k → (a b c : Bool) → (T x.pending.payload → T a) → (T x.pending.confirmation → T b)
        → (T x.pending.abort → T c) → Low a b c k
    of (the_payload t) a b c f g h = payload a b c (f t)
    of (the_confirmation t) a b c f g h = confirmation a b c (g t)
    of (the_abort t) a b c f g h = abort a b c (h t)

lowest_in_table : (s : Stream) → s.0 ≤ max_stream → (xs : List Slot) {c : ℕ} → T (first (is_of s) xs).used
    → IsPending (first (is_of s) xs) c → lowest_or_above (pending_ids xs) ≤ s.0 * 4 + c
unfolding first pending_ids pending_in
lowest_in_table s small [] used p = absurd used
lowest_in_table s small (x ∷ xs) {c} used p = go (is_of s x) (λ t. t) used p (lowest_in_table s small xs)
  where
    go : (t : Bool) → (T t → T (is_of s x)) → T (cond t x (first (is_of s) xs)).used → IsPending (cond t x (first (is_of s) xs)) c
        → (T (first (is_of s) xs).used → IsPending (first (is_of s) xs) c → lowest_or_above (pending_ids xs) ≤ s.0 * 4 + c)
        → lowest_or_above (pending_in x ++ pending_ids xs) ≤ s.0 * 4 + c
    go true own used p rest =
        let stream = eqb→eq x.stream.0 s.0 (and_r x.used (eqb x.stream.0 s.0) (own tt)) in
        let legal : (x.used && leb x.stream.0 max_stream) ≡ true =
        is_true _ (both x.used (leb x.stream.0 max_stream) used (so (le-leb x.stream.0 max_stream (omega arith)))) in
        let here : lowest_or_above (pending_in x) ≤ s.0 * 4 + c = rw (legal, ← stream) (lowest_in_slot x x.stream.0 p) in
        omega (arith, lowest_append (pending_in x) (pending_ids xs))
    go false own used p rest = omega (arith, rest used p, lowest_append (pending_in x) (pending_ids xs))

-- ── a node ──
module _ (s : Stream) (n : Node) (k : Kept n) where
  stream_small : T (slot_of s n).used → s.0 ≤ max_stream
  stream_small used =
      subst (λ (z : Stream). z.0 ≤ max_stream) (stream_of_slot s n used)
      ((legal_tells (slot_of s n).stream (slot_of s n).settings).says ((slot_kept s n k).lawful (is_true _ used))).stream

  -- where a frame is pending, there is a next frame, and it is no higher
  pub lowest_given : {c : ℕ} → T (slot_of s n).used → IsPending (slot_of s n) c → T (is_done (giving n).reply) × ((giving n).id.0 ≤ s.0 * 4 + c)
  unfolding give_by_id
  lowest_given {c} used p =
      let low = lowest_in_table s (stream_small used) n.slots used p in
      let small = stream_small used in
      let code = small_code (slot_of s n) p in
      let gave = (next_by_id_cases lent n k.in_order).accepted_if (record { room = ltb-false 512 8 refl; pending = omega arith }) in
      rw gave (tt, low)

-- ── two nodes ──
pub record SameNext (n n' : Node) : Type 0 where
  pub given : T (is_done (giving n').reply)
  pub id : (giving n').id ≡ (giving n).id
  pub bytes : (giving n').bytes ≡ (giving n).bytes

module _ (s : Stream) (n n' : Node) (k : Kept n) (k' : Kept n') (slot : slot_of s n' ≡ slot_of s n)
    (quiet : (z : Stream) → (Same s z → ⊥) → Quiet (slot_of z n')) where
  pub same_next : T (is_done (giving n).reply) → stream_of (giving n).id ≡ s → SameNext n n'
  same_next given stream =
      record {
        given = low'.0;
        id = same_id;
        bytes =
            next_bytes n' k' low'.0
            ∙ (ap (λ (i : BusId). payload_for (code_of i) (slot_of (stream_of i) n')) same_id
            ∙ (ap (λ z. payload_for (code_of (giving n).id) (slot_of z n')) stream
            ∙ (ap (payload_for (code_of (giving n).id)) slot
            ∙ (ap (λ z. payload_for (code_of (giving n).id) (slot_of z n)) (sym stream)
            ∙ sym (next_bytes n k given)))));
      }
    where
      used : T (slot_of s n).used
      used = subst (λ z. T (slot_of z n).used) stream (next_used n k given)

      used' : T (slot_of s n').used
      used' = subst (λ (x : Slot). T x.used) (sym slot) used

      pending : IsPending (slot_of s n) (code_of (giving n).id)
      pending = subst (λ z. IsPending (slot_of z n) (code_of (giving n).id)) stream (next_pending n k given)

      low' : T (is_done (giving n').reply) × ((giving n').id.0 ≤ s.0 * 4 + code_of (giving n).id)
      low' = lowest_given s n' k' used' (subst (λ x. IsPending x (code_of (giving n).id)) (sym slot) pending)

      stream' : (s ≡ stream_of (giving n').id) ⊎ (Same s (stream_of (giving n').id) → ⊥) → s ≡ stream_of (giving n').id
      stream' (inl e) = e
      stream' (inr other) = absurd (none_pending _ (quiet _ other) (next_pending n' k' low'.0))

      at' : s ≡ stream_of (giving n').id
      at' = stream' (decide_stream s (stream_of (giving n').id))

      low : (giving n).id.0 ≤ s.0 * 4 + code_of (giving n').id
      low =
          (lowest_given s n k used
          (subst (λ x. IsPending x (code_of (giving n').id)) slot
          (subst (λ z. IsPending (slot_of z n') (code_of (giving n').id)) (sym at') (next_pending n' k' low'.0)))).1

      same_id : (giving n').id ≡ (giving n).id
      same_id =
          let a : (giving n).id.0 / 4 ≡ s.0 = ap (λ (z : Stream). z.0) stream in
          let b : s.0 ≡ (giving n').id.0 / 4 = ap (λ (z : Stream). z.0) at' in
          let e : (giving n').id.0 ≡ (giving n).id.0 = omega (arith, low'.1, low) in
          λ i. record { 0 = e i }
