-- Worked bytes: a slot there and back, bytes that no call wrote, a store and a refusal.
use Rattle.std.specs.Prelude.{ℕ, ◌≡◌, true, false, List, [], ◌∷◌, ◌++◌, get_or, replicate}
use Rattle.wire.specs.declared.reply.Reply.TheVariants.{Done, BadLength}
use Rattle.wire.specs.Settings.{settings, of_two_message}
use Rattle.wire.specs.Frames.{max_payload}
use Rattle.node.specs.declared.slots.Slot.{Slot}
use Rattle.node.specs.Slots.{padded, frames, empty}
use Rattle.node.specs.Nodes.{fresh}
use Rattle.node_bytes.specs.Layout.{slot_size, node_size}
use Rattle.node_bytes.specs.Decoding.{slot_from, decode}
use Rattle.node_bytes.specs.Encoding.{encode_slot, encode}
use Rattle.node_bytes.specs.Lent.{read_slot, read_counter, store_slot, store_counter, fresh_reply, fresh_in}

-- a receiver of stream 16,909,060, which took up 0A 0B at 258 and has an abort pending
abbrev pub waiting : Slot
waiting =
    record {
      stream = record { 0 = 0x01020304 };
      settings = of_two_message 0 2 300 2 306;
      message = record { stamp = 258; len = 2; held = true; confirmed = false; bytes = padded (0x0a ∷ 0x0b ∷ []) };
      pending = frames false false true;
      used = true;
    }

abbrev pub waiting_bytes : List ℕ
waiting_bytes =
    -- stream, used, held, stamp
    0x04 ∷ 0x03 ∷ 0x02 ∷ 0x01 ∷ 0x01 ∷ 0x01 ∷ 0x02 ∷ 0x01
    -- payload, confirmation and abort pending, confirmed, length, role, class, nothing
    ∷ 0x00 ∷ 0x00 ∷ 0x01 ∷ 0x00 ∷ 0x02 ∷ 0x00 ∷ 0x02 ∷ 0x00
    -- data reach, confirm delay, abort reach, deliver delay
    ∷ 0x02 ∷ 0x00 ∷ 0x2c ∷ 0x01 ∷ 0x02 ∷ 0x00 ∷ 0x32 ∷ 0x01
    -- the message
    ∷ 0x0a ∷ 0x0b ∷ 0x00 ∷ 0x00 ∷ 0x00 ∷ 0x00 ∷ 0x00 ∷ 0x00 ∷ []

-- the slot that 32 bytes ff are
abbrev pub all_ones : Slot
all_ones =
    record {
      stream = record { 0 = 4294967295 };
      settings = settings 255 255 65535 65535 65535 65535;
      message = record { stamp = 65535; len = 255; held = true; confirmed = true; bytes = replicate max_payload 255 };
      pending = frames true true true;
      used = true;
    }

pub record WorkedSlots : Type 0 where
  pub there : encode_slot waiting ≡ waiting_bytes
  pub back : slot_from waiting_bytes 0 ≡ waiting
  pub nothing : encode_slot empty ≡ replicate slot_size 0x00
  pub hostile : slot_from (replicate slot_size 0xff) 0 ≡ all_ones
  -- a flag of 2 is true, and is written back as 1
  pub true_as_two : (slot_from (replicate slot_size 0x02) 0).used ≡ true
  pub true_as_one : get_or (encode_slot (slot_from (replicate slot_size 0x02) 0)) 4 0 ≡ 1

pub record WorkedNodes : Type 0 where
  pub fresh_bytes : encode fresh ≡ replicate node_size 0x00
  pub fresh_back : decode (replicate node_size 0x00) ≡ fresh
  pub counter : read_counter (store_counter 258 (replicate node_size 0xff)) ≡ 258
  pub counter_bytes : store_counter 258 (replicate node_size 0xff) ≡ replicate 1024 0xff ++ 0x02 ∷ 0x01 ∷ []
  -- the last slot stands right before the counter
  pub last_slot : store_slot 31 waiting (replicate node_size 0xff) ≡ replicate 992 0xff ++ waiting_bytes ++ 0xff ∷ 0xff ∷ []
  pub read_there : read_slot (store_slot 31 waiting (replicate node_size 0xff)) 31 ≡ waiting
  pub read_before : read_slot (store_slot 31 waiting (replicate node_size 0xff)) 30 ≡ all_ones
  -- there is no slot 32, and a buffer of one byte less or more is no node
  pub no_slot_32 : store_slot 32 waiting (replicate node_size 0xff) ≡ replicate node_size 0xff
  pub read_none : read_slot (replicate node_size 0xff) 32 ≡ empty
  pub short_refused : fresh_reply (replicate 1025 0xff) ≡ BadLength
  pub short_untouched : fresh_in (replicate 1025 0xff) ≡ replicate 1025 0xff
  pub long_refused : fresh_reply (replicate 1027 0xff) ≡ BadLength
  pub long_unread : read_slot (replicate 1027 0xff) 0 ≡ empty
  pub written : fresh_reply (replicate node_size 0xff) ≡ Done
