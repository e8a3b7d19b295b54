-- Bytes stored from a place on, one after the other.
use mathlib.Core.Path.{◌≡◌, refl, sym, ap, ◌∙◌}
use mathlib.Core.List.{List, [], ◌∷◌, ◌++◌, append_assoc}
use Prim.Native.Nat.{ℕ, zero, suc, ◌+◌, ◌-◌, ◌/◌, ◌≤◌}
use native.Mathlib.Nat.{zero-add, add-zero}
use native.Mathlib.Omega.{arith}
use borrow.Rule.Slice.PartMut.{put_mid}
use Rattle.std.proofs.lemmas.Slice.{put_mid-paste}
use Rattle.std.proofs.lemmas.List.Edits.{paste_all}
use lib.ListN.{length, set, take, drop, length-append}
use lib.Seq.{sets, sets-eq}
use Rattle.wire.specs.Delivered.{little_endian, over}
use Rattle.heard.specs.Kinds.{count_bytes}
use Rattle.heard.specs.Records.{Heard, record_of}

-- a part of the output that was written over, from a place on
pub stored_part : (out part bytes : List ℕ) (at width : ℕ) → part ≡ bytes → width ≡ length bytes → at + width ≤ length out
    → put_mid at (at + width - at) out part ≡ sets out at bytes
stored_part out part bytes at width e long room =
    let long' : length bytes ≡ width = omega arith in
    let so : at + width - at ≡ width = omega arith in
    rw (so, e) (put_mid-paste at width out bytes bytes (length bytes) refl long' refl ∙ paste_all out at bytes (length bytes) refl
    ∙ sym (append_assoc (take at out) bytes _)
    ∙ sym (sets-eq bytes out at (omega arith)))

-- what is stored right behind other bytes is stored with them
pub stored_behind : (out before bytes : List ℕ) (at next : ℕ) → next ≡ at + length before
    → sets (sets out at before) next bytes ≡ sets out at (before ++ bytes)
stored_behind out [] bytes at next e = rw (e, add-zero)
stored_behind out (b ∷ before) bytes at next e = stored_behind (set out at b) before bytes (suc at) next (omega arith)

stored_in_front : (out bytes : List ℕ) → length bytes ≤ length out → sets out 0 bytes ≡ over bytes out
stored_in_front out bytes room =
    sets-eq bytes out 0 (omega arith) ∙ ap (λ (k : ℕ). bytes ++ drop k out) (zero-add (length bytes))

pub length_number : (width n : ℕ) → length (little_endian width n) ≡ width
length_number zero n = refl
length_number (suc width) n = ap suc (length_number width (n / 256))

-- a record is nine bytes and its count longer than its payload
pub record_length_law : (h : Heard) (payload : List ℕ) → length (record_of h payload) ≡ 9 + count_bytes h.kind + length payload
unfolding record_of
record_length_law h payload =
    let count = little_endian (count_bytes h.kind) h.count in
    let id = little_endian 4 h.id.0 in
    omega (arith, length-append (count ++ id) (h.dlc ∷ payload), length-append count id, length_number (count_bytes h.kind) h.count)

-- the parts of a record in front of its DLC
module _ (h : Heard) (payload : List ℕ) where
  abbrev pub width : ℕ
  width = count_bytes h.kind

  abbrev pub size : List ℕ
  size = little_endian 2 (7 + width + length payload)

  abbrev pub kind : List ℕ
  kind = little_endian 2 h.kind

  abbrev pub count : List ℕ
  count = little_endian width h.count

  abbrev pub id : List ℕ
  id = little_endian 4 h.id.0

  abbrev head : List ℕ
  head = size ++ kind ++ count ++ id

  head_length : length head ≡ 8 + width
  head_length = omega (arith, length-append count id, length_number width h.count)

  module _ (out : List ℕ) (room : 9 + width + length payload ≤ length out) where
    stored_head : sets (sets (sets (sets out 0 size) 2 kind) 4 count) (4 + width) id ≡ sets out 0 head
    stored_head =
        ap (λ (l : List ℕ). sets (sets l 4 count) (4 + width) id) (stored_behind out size kind 0 2 refl)
        ∙ ap (λ (l : List ℕ). sets l (4 + width) id) (stored_behind out (size ++ kind) count 0 4 refl)
        ∙ stored_behind out (size ++ kind ++ count) id 0 (4 + width) (omega (arith, length_number width h.count))

    -- length, kind, count, bus identifier, DLC and payload, stored one behind the other, are the record over the output
    pub stored_parts :
        sets (set (sets (sets (sets (sets out 0 size) 2 kind) 4 count) (4 + width) id) (4 + (4 + width)) h.dlc) (5 + (4 + width)) payload
        ≡ over (record_of h payload) out
    unfolding record_of
    stored_parts =
        let next : 5 + (4 + width) ≡ suc (4 + (4 + width)) = omega arith in
        ap (λ (l : List ℕ). sets (set l (4 + (4 + width)) h.dlc) (5 + (4 + width)) payload) stored_head
        ∙ ap (λ (k : ℕ). sets (set (sets out 0 head) (4 + (4 + width)) h.dlc) k payload) next
        ∙ stored_behind out head (h.dlc ∷ payload) 0 (4 + (4 + width)) (omega (arith, head_length))
        ∙ stored_in_front out (head ++ h.dlc ∷ payload) (omega (arith, head_length, length-append head (h.dlc ∷ payload)))
