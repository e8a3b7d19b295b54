-- Where each part of a node stands in its bytes: 32 slots of 32 bytes, and then the counter.
use Rattle.std.specs.Prelude.{ℕ, ◌+◌, ◌*◌}
use Rattle.node.specs.Nodes.{slot_count}

-- ── a slot's parts, from its first byte on ──
abbrev pub stream_at : ℕ
stream_at = 0

abbrev pub used_at : ℕ
used_at = 4

abbrev pub held_at : ℕ
held_at = 5

abbrev pub stamp_at : ℕ
stamp_at = 6

abbrev pub payload_pending_at : ℕ
payload_pending_at = 8

abbrev pub confirmation_pending_at : ℕ
confirmation_pending_at = 9

abbrev pub abort_pending_at : ℕ
abort_pending_at = 10

abbrev pub confirmed_at : ℕ
confirmed_at = 11

abbrev pub len_at : ℕ
len_at = 12

abbrev pub role_at : ℕ
role_at = 13

abbrev pub class_at : ℕ
class_at = 14

-- written as 0, and never read
abbrev pub unread_at : ℕ
unread_at = 15

abbrev pub data_reach_at : ℕ
data_reach_at = 16

abbrev pub confirm_delay_at : ℕ
confirm_delay_at = 18

abbrev pub abort_reach_at : ℕ
abort_reach_at = 20

abbrev pub deliver_delay_at : ℕ
deliver_delay_at = 22

abbrev pub payload_at : ℕ
payload_at = 24

abbrev pub slot_size : ℕ
slot_size = 32

-- ── the node's parts ──
-- the first byte of slot i
abbrev pub slot_start : (i : ℕ) → ℕ
slot_start i = slot_size * i

abbrev pub counter_at : ℕ
counter_at = slot_size * slot_count

abbrev pub node_size : ℕ
node_size = counter_at + 2
