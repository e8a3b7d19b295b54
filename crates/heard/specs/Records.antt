-- The heard record and its bytes.
use Rattle.std.specs.Prelude.{ℕ, ◌+◌, List, ◌∷◌, ◌++◌, length}
use Rattle.wire.specs.declared.ids.BusId.{BusId}
use Rattle.wire.specs.Delivered.{little_endian}
use Rattle.heard.specs.declared.record.Heard as code
use Rattle.heard.specs.Kinds.{counter_kind, count_bytes, head_length, kind_number}

-- what stands before the payload, with the kind as a number
pub record Heard : Type 0 where
  pub kind : ℕ
  pub count : ℕ
  pub id : BusId
  pub dlc : ℕ

-- as the code has it
abbrev pub heard_of : code.Heard → Heard
heard_of h = record { kind = kind_number h.kind; count = h.count; id = h.id; dlc = h.dlc }

-- of a frame heard when the node's counter stood at this
abbrev pub at_counter : (counter : ℕ) → BusId → (dlc : ℕ) → Heard
at_counter counter id dlc = record { kind = counter_kind; count = counter; id = id; dlc = dlc }

-- length (of what follows it), kind, count, bus identifier, DLC, payload
unfoldable pub record_of : Heard → (payload : List ℕ) → List ℕ
record_of h payload =
    little_endian 2 (head_length h.kind + length payload) ++ little_endian 2 h.kind
    ++ little_endian (count_bytes h.kind) h.count ++ little_endian 4 h.id.0 ++ h.dlc ∷ payload
