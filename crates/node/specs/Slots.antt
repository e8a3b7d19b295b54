-- A slot: its parts, what changes them, and finding one in the table. A new field of them is added here and in `src/slots.rt`.
use Rattle.std.specs.Prelude.{ℕ, ◌+◌, Bool, true, false, cond, not, ◌&&◌, ◌||◌, List, [], ◌∷◌, ◌++◌, length, take, drop, replicate, ◌==◌}
use Rattle.wire.specs.declared.ids.Stream.{Stream}
use Rattle.wire.specs.declared.settings.Settings.{Settings}
use Rattle.wire.specs.Settings.{no_settings, receives, sends}
use Rattle.wire.specs.Frames.{max_payload}
use Rattle.node.specs.declared.slots.Message.{Message}
use Rattle.node.specs.declared.slots.Pending.{Pending}
use Rattle.node.specs.declared.slots.Slot.{Slot}

-- ── the message ──
-- a payload with zeros after it, eight bytes in all
abbrev pub padded : List ℕ → List ℕ
padded payload = payload ++ drop (length payload) (replicate max_payload 0)

abbrev pub no_message : Message
no_message = record { stamp = 0; len = 0; held = false; confirmed = false; bytes = replicate max_payload 0 }

-- taken up at this moment, unconfirmed
abbrev pub holding : (now : ℕ) → (payload : List ℕ) → Message
holding now payload = record { stamp = now; len = length payload; held = true; confirmed = false; bytes = padded payload }

-- not held, and kept for the frame that is pending
abbrev pub keeping : (payload : List ℕ) → Message
keeping payload = record { stamp = 0; len = length payload; held = false; confirmed = false; bytes = padded payload }

abbrev pub restamped : (now : ℕ) → Message → Message
restamped now m = record { stamp = now; len = m.len; held = m.held; confirmed = m.confirmed; bytes = m.bytes }

abbrev pub confirmed : Message → Message
confirmed m = record { stamp = m.stamp; len = m.len; held = m.held; confirmed = true; bytes = m.bytes }

-- held no longer; a pending frame may still need its bytes
abbrev pub released : Message → Message
released m = record { stamp = 0; len = m.len; held = false; confirmed = false; bytes = m.bytes }

-- its first bytes, as many as its length says (all eight of them, where that is above 8: only in nodes that no call makes)
abbrev pub payload_of : Message → List ℕ
payload_of m = take m.len m.bytes

-- the same bytes, and as many
unfoldable pub same_bytes : List ℕ → List ℕ → Bool
same_bytes [] [] = true
same_bytes [] (y ∷ ys) = false
same_bytes (x ∷ xs) [] = false
same_bytes (x ∷ xs) (y ∷ ys) = x == y && same_bytes xs ys

-- a payload has the message's length and bytes
abbrev pub same : Message → (payload : List ℕ) → Bool
same m payload = m.len == length payload && same_bytes (payload_of m) payload

-- ── the slot ──
-- which frames are pending
abbrev pub frames : (payload confirmation abort : Bool) → Pending
frames payload confirmation abort = record { payload = payload; confirmation = confirmation; abort = abort }

abbrev pub none_pending : Pending
none_pending = frames false false false

-- the frame with the payload, and the confirmation where there is one
abbrev pub to_send : (confirmation : Bool) → Pending
to_send confirmation = frames true confirmation false

abbrev pub abort_pending : Pending → Pending
abort_pending p = frames p.payload p.confirmation true

-- one of them given out
abbrev pub payload_given : Pending → Pending
payload_given p = frames false p.confirmation p.abort

abbrev pub confirmation_given : Pending → Pending
confirmation_given p = frames p.payload false p.abort

abbrev pub abort_given : Pending → Pending
abort_given p = frames p.payload p.confirmation false

-- no stream is set up here
abbrev pub empty : Slot
empty =
    record {
      stream = record { 0 = 0 };
      settings = no_settings;
      message = no_message;
      pending = none_pending;
      used = false;
    }

-- the slot of a stream that was just set up
abbrev pub slot_for : Stream → Settings → Slot
slot_for s settings = record { stream = s; settings = settings; message = no_message; pending = none_pending; used = true }

abbrev pub is_free : Slot → Bool
is_free x = not x.used

abbrev pub is_of : Stream → Slot → Bool
is_of s x = x.used && x.stream.0 == s.0

abbrev pub is_receiver : Slot → Bool
is_receiver x = x.used && receives x.settings

abbrev pub is_sender : Slot → Bool
is_sender x = x.used && sends x.settings

abbrev pub with_parts : Slot → Message → Pending → Slot
with_parts x m p = record { stream = x.stream; settings = x.settings; message = m; pending = p; used = x.used }

abbrev pub with_message : Message → Slot → Slot
with_message m x = with_parts x m x.pending

-- ── the table ──
-- the first slot of which the test is true; where there is none, the empty slot (in a node that calls make, a stream has one slot at most)
unfoldable pub first : (Slot → Bool) → List Slot → Slot
first test [] = empty
first test (x ∷ xs) = cond (test x) x (first test xs)

-- the same slots, but the first of which the test is true is changed
unfoldable pub on_first : (Slot → Bool) → (Slot → Slot) → List Slot → List Slot
on_first test change [] = []
on_first test change (x ∷ xs) = cond (test x) (change x ∷ xs) (x ∷ on_first test change xs)

unfoldable pub some : (Slot → Bool) → List Slot → Bool
some test [] = false
some test (x ∷ xs) = test x || some test xs

-- of how many it is true
unfoldable pub many : (Slot → Bool) → List Slot → ℕ
many test [] = 0
many test (x ∷ xs) = cond (test x) 1 0 + many test xs
