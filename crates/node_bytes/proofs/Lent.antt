-- Reads and stores in a lent buffer: their ways, and the laws of the bytes in the words of these.
use mathlib.Core.Path.{◌≡◌, refl, sym, ap, ◌∙◌}
use mathlib.Core.Bool.{Bool, true, false, cond, and-eq-true_iff}
use mathlib.Core.List.{List, []}
use Prim.Native.Nat.{ℕ, ◌≤◌, ◌<◌}
use native.Mathlib.Omega.{arith}
use borrow.Author.Tests.{ltb-true, ltb-false, eqb-true}
use lib.ListN.{length, set, replicate}
use lib.Seq.{sets, length-sets, set_out, set-get_or}
use Rattle.wire.specs.Delivered.{little_endian}
use Rattle.node.specs.declared.slots.Slot.{Slot}
use Rattle.node.specs.Slots.{empty}
use Rattle.node.specs.Nodes.{slot_count, fresh}
use Rattle.node_bytes.specs.Layout.{slot_start, counter_at, node_size}
use Rattle.node_bytes.specs.Decoding.{slot_at, decode}
use Rattle.node_bytes.specs.Encoding.{encode_slot, encode}
use Rattle.node_bytes.specs.Lent.{is_node, is_slot, read_slot, read_counter, store_slot, store_counter, fresh_in, with_slot}
use Rattle.node_bytes.specs.Widths.{SlotFits}
use Rattle.node_bytes.specs.Laws.{SlotRead, CounterRead, SlotStored, CounterStored, StoredAsRead, LengthStays, FreshWritten}
use Rattle.node_bytes.proofs.ByIndex.{decoded_slot, decoded_length, decoded_counter}
use Rattle.node_bytes.proofs.NodeRoundTrip.{length_encoded}
use Rattle.node_bytes.proofs.Stored.{decode_stored, decode_counted}
use Rattle.node_bytes.proofs.Fitting.{slot_fits, round_trip_of_calls}

-- ── what the tests tell ──
pub is_node_law : (bytes : List ℕ) → is_node bytes ≡ true → length bytes ≡ node_size
is_node_law bytes e = eqb-true _ _ e

pub is_slot_law : (bytes : List ℕ) (i : ℕ) → is_slot bytes i ≡ true → (length bytes ≡ node_size) × (i < slot_count)
is_slot_law bytes i e = let (whole, inside) = (and-eq-true_iff _ _).0 e in (eqb-true _ _ whole, ltb-true i slot_count inside)

-- ── reading ──
pub there : (bytes : List ℕ) (i : ℕ) → is_slot bytes i ≡ true → read_slot bytes i ≡ slot_at bytes i
unfolding read_slot
there bytes i e = rw e

pub not_there : (bytes : List ℕ) (i : ℕ) → is_slot bytes i ≡ false → read_slot bytes i ≡ empty
unfolding read_slot
not_there bytes i e = rw e

-- what is asked of a slot: where the code's test found it, and where not
module _ {R : Type 0} (ask : Slot → R) (bytes : List ℕ) (i : ℕ) {t : Bool} (test : t ≡ is_slot bytes i) where
  pub asked_there : t ≡ true → {r : R} → r ≡ ask (slot_at bytes i) → r ≡ ask (read_slot bytes i)
  asked_there e answer = answer ∙ ap ask (sym (there bytes i (sym test ∙ e)))

  pub asked_empty : t ≡ false → ask empty ≡ ask (read_slot bytes i)
  asked_empty e = ap ask (sym (not_there bytes i (sym test ∙ e)))

pub slot_read : SlotRead
unfolding read_slot
slot_read bytes i d e = rw e (sym (decoded_slot bytes i d (is_slot_law bytes i e).1))

pub counter_read : CounterRead
unfolding read_counter
counter_read bytes e = rw e (sym (decoded_counter bytes))

-- ── storing ──
module _ (bytes : List ℕ) (i : ℕ) (x : Slot) where
  pub stores : is_slot bytes i ≡ true → store_slot i x bytes ≡ sets bytes (slot_start i) (encode_slot x)
  unfolding store_slot
  stores e = rw e

  pub stores_nothing : is_slot bytes i ≡ false → store_slot i x bytes ≡ bytes
  unfolding store_slot
  stores_nothing e = rw e

  -- a node has no slot past the last, and setting one changes nothing
  pub past_the_last : is_slot bytes i ≡ false → is_node bytes ≡ true → with_slot i x (decode bytes) ≡ decode bytes
  past_the_last none e =
      let n = decode bytes in
      let past : slot_count ≤ i = ltb-false i slot_count (rw e at none) in
      ap (λ (l : List Slot). record { slots = l; counter = n.counter }) (set_out n.slots i x (omega (arith, decoded_length bytes)))

  stored_by : (inside : Bool) → is_slot bytes i ≡ inside → is_node bytes ≡ true → SlotFits x → decode (store_slot i x bytes) ≡ with_slot i x (decode bytes)
  stored_by true h e fits =
      let (whole, inside) = is_slot_law bytes i h in ap decode (stores h) ∙ decode_stored bytes i x whole inside fits
  stored_by false h e fits = ap decode (stores_nothing h) ∙ sym (past_the_last h e)

pub slot_stored : SlotStored
slot_stored bytes i x = stored_by bytes i x (is_slot bytes i) refl

pub counter_stored : CounterStored
unfolding store_counter
counter_stored bytes c e fits = rw e (decode_counted bytes c (is_node_law bytes e) fits)

pub stored_as_read : StoredAsRead
stored_as_read bytes i low = by_slot (is_slot bytes i) refl
  where
    by_slot : (inside : Bool) → is_slot bytes i ≡ inside → decode (store_slot i (read_slot bytes i) bytes) ≡ decode bytes
    by_slot true h =
        let n = decode bytes in
        let (whole, inside) = is_slot_law bytes i h in
        rw (there bytes i h, stores bytes i (slot_at bytes i) h)
        (decode_stored bytes i (slot_at bytes i) whole inside (slot_fits bytes low (slot_start i))
        ∙ ap (λ (l : List Slot). record { slots = l; counter = n.counter })
        (ap (set n.slots i) (sym (decoded_slot bytes i empty inside)) ∙ set-get_or n.slots i empty))
    by_slot false h = ap decode (stores_nothing bytes i (read_slot bytes i) h)

-- ── lengths ──
either_length : (t : Bool) (new old : List ℕ) → (t ≡ true → length new ≡ length old) → length (cond t new old) ≡ length old
either_length true new old same = same refl
either_length false new old same = refl

pub length_stays : LengthStays
unfolding store_slot store_counter fresh_in
length_stays bytes i c x = (
  either_length (is_slot bytes i) _ bytes (λ e. length-sets bytes (slot_start i) (encode_slot x)),
  either_length (is_node bytes) _ bytes (λ e. length-sets bytes counter_at (little_endian 2 c)),
  either_length (is_node bytes) _ bytes (λ e. length_encoded fresh refl ∙ sym (is_node_law bytes e)),
)

-- ── the fresh node ──
fresh_is_zeros : encode fresh ≡ replicate node_size 0
unfolding encode encode_slot
fresh_is_zeros = refl

pub cleared_is_fresh : (bytes : List ℕ) → is_node bytes ≡ true → replicate (length bytes) 0 ≡ fresh_in bytes
unfolding fresh_in
cleared_is_fresh bytes e = rw (e, is_node_law bytes e) (sym fresh_is_zeros)

pub fresh_written : FreshWritten
unfolding fresh_in
fresh_written bytes e = rw e (round_trip_of_calls [])
