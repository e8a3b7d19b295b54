-- A call on a lent node: its answer and what it leaves are those of the node that the bytes are, whatever bytes they are. A buffer of another
-- length than a node's is refused as BadLength.
use Rattle.std.specs.Prelude.{◌≡◌, ◌≢◌, cond, List, ℕ, length}
use Rattle.wire.specs.declared.reply.Reply.TheVariants.{Done, BadLength}
use Rattle.node.specs.Nodes.{Outcome, refused}
use Rattle.node.specs.Clock.{rolled}
use Rattle.node.specs.Calls.{Call, outcome}
use Rattle.node_bytes.specs.Decoding.{decode}
use Rattle.node_bytes.specs.Lent.{is_node}

-- what the call does to the node that the bytes are
abbrev pub lent_outcome : Call → (bytes : List ℕ) → Outcome
lent_outcome c bytes = cond (is_node bytes) (outcome rolled c (decode bytes)) (refused (decode bytes) BadLength)

-- the bytes after it: the node's, in as many bytes; and after a refusal every byte is as it was
pub record Leaves (c : Call) (before after : List ℕ) : Type 0 where
  pub length_stays : length after ≡ length before
  pub node : decode after ≡ (lent_outcome c before).node
  pub refused_unchanged : (lent_outcome c before).reply ≢ Done → after ≡ before

-- for every input any two contents of the lent bytes that meet a promise are the same node
module _ {L : Type 0} {I A E : L → Type 0} where
  abbrev pub OneNode : ((l : L) → I l → A l → E l → Type 0) → ((l : L) → E l → List ℕ) → Type 0
  OneNode promise content =
      (l : L) (input : I l) (a b : A l) (s t : E l) → promise l input a s → promise l input b t → decode (content l s) ≡ decode (content l t)
