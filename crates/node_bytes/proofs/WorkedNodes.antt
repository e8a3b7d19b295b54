-- The worked bytes are as worked.
use mathlib.Core.Path.{refl}
use Rattle.node_bytes.specs.Decoding.{slot_from, slots_at, decode}
use Rattle.node_bytes.specs.Encoding.{encode_slot, encode}
use Rattle.node_bytes.specs.Lent.{read_slot, read_counter, store_slot, store_counter, fresh_reply, fresh_in}
use Rattle.node_bytes.specs.WorkedNodes.{WorkedSlots, WorkedNodes}

pub slots_as_worked : WorkedSlots
unfolding slot_from encode_slot
slots_as_worked = record { there = refl; back = refl; nothing = refl; hostile = refl; true_as_two = refl; true_as_one = refl }

pub nodes_as_worked : WorkedNodes
unfolding slot_from slots_at decode encode_slot encode read_slot read_counter store_slot store_counter fresh_reply fresh_in
nodes_as_worked =
    record {
      fresh_bytes = refl;
      fresh_back = refl;
      counter = refl;
      counter_bytes = refl;
      last_slot = refl;
      read_there = refl;
      read_before = refl;
      no_slot_32 = refl;
      read_none = refl;
      short_refused = refl;
      short_untouched = refl;
      long_refused = refl;
      long_unread = refl;
      written = refl;
    }
