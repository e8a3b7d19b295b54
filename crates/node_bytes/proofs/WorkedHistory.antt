-- The worked history is as worked.
use Prim.Native.Nat.{ℕ}
use Rattle.std.proofs.Common.{Ok, Err}
use mathlib.Core.Path.{◌≡◌, refl}
use mathlib.Core.List.{List, [], ◌∷◌}
use lib.ListN.{length, replicate}
use Rattle.wire.specs.declared.reply.Reply.TheVariants.{Done, BadLength}
use Rattle.wire.specs.Settings.{legal}
use Rattle.wire.specs.Identifiers.{join}
use Rattle.node.specs.Slots.{first, on_first, some, many}
use Rattle.node.specs.SetUp.{less_free, in_place, set_up}
use Rattle.node.specs.Tick.{tick_room, late, due, hold_over, lapsed, due_slots, records_from, tick}
use Rattle.node.specs.Request.{requested, request}
use Rattle.node.specs.NextFrame.{next_room, given_out, payload_for, give, next_frame}
use Rattle.node.specs.Calls.{Call}
use Rattle.node.specs.Moments.{five, send, settings, request₅, one_tick}
use Rattle.node.specs.Moments as moments
use Rattle.node_bytes.specs.Decoding.{slot_from, slots_at, decode}
use Rattle.node_bytes.specs.Encoding.{encode_slot, encode}
use Rattle.node_bytes.specs.Lent.{fresh_in}
use Rattle.node_bytes.specs.LentCalls.{lent_outcome, Leaves}
use Rattle.node_bytes.specs.LentHistories.{start, next}
use Rattle.node_bytes.specs.WorkedHistory.{WorkedHistory, after_set_up, after_request, after_frame, after_tick}

abbrev ready : Call
ready = Call.set_up five (settings send 6)

-- what a call leaves that is done
leaves_done : {c : Call} {before after : List ℕ} → (lent_outcome c before).reply ≡ Done → length after ≡ length before
    → decode after ≡ (lent_outcome c before).node → Leaves c before after
leaves_done says long left = record { length_stays = long; node = left; refused_unchanged = λ other. absurd (other says) }

abbrev short : List ℕ
short = replicate 1025 0xff

short_left : (c : Call) → Leaves c short short
short_left c = record { length_stays = refl; node = refl; refused_unchanged = λ other. refl }

pub history_as_worked : WorkedHistory
unfolding slot_from slots_at decode encode_slot encode fresh_in legal join first on_first some less_free in_place set_up requested request
    given_out payload_for give next_frame late due hold_over lapsed many due_slots records_from tick
history_as_worked =
    record {
      run =
          next ready (Ok tt) [] after_set_up (refl, leaves_done refl refl refl)
          (next request₅ (Ok tt) [] after_request (refl, leaves_done refl refl refl)
          (next moments.next (Ok (record { id = record { 0 = 20 }; len = 2 })) (0x0a ∷ 0x0b ∷ replicate 6 0) after_frame
          ((refl, refl), leaves_done refl refl refl)
          (next one_tick (Ok (record { written = 0; dropped = 0; delivered = 0 })) (replicate tick_room 0) after_tick ((refl, refl), leaves_done refl refl refl)
          start)));
      short =
          next ready (Err BadLength) [] short (refl, short_left ready)
          (next request₅ (Err BadLength) [] short (refl, short_left request₅)
          (next moments.next (Err BadLength) (replicate next_room 0) short ((refl, refl), short_left moments.next)
          (next one_tick (Err BadLength) (replicate tick_room 0) short ((refl, refl), short_left one_tick) start)));
    }
