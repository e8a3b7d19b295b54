-- A call on a lent node has of judged numbers the outcome that it has of the numbers themselves, and so leaves the same.
use mathlib.Core.Path.{◌≡◌, sym, ap, ◌∙◌}
use mathlib.Core.Bool.{cond}
use mathlib.Core.List.{List}
use Prim.Native.Nat.{ℕ}
use Rattle.wire.specs.declared.reply.Reply.TheVariants.{BadLength}
use Rattle.wire.specs.declared.ids.BusId.{BusId}
use Rattle.wire.specs.declared.ids.Stream.{Stream}
use Rattle.node.specs.Nodes.{Outcome, refused}
use Rattle.node.specs.Calls.{Call}
use Rattle.node_bytes.specs.Decoding.{decode}
use Rattle.node_bytes.specs.Lent.{is_node}
use Rattle.node_bytes.specs.LentCalls.{lent_outcome, Leaves}
use Rattle.firmware.specs.declared.judged.SettingsC.{SettingsC}
use Rattle.firmware.specs.Judged.{dlc_of, in_numbers, settings_of}
use Rattle.firmware.proofs.Judging.{heard_so, set_up_so}

abbrev lent_as : (bytes : List ℕ) → Outcome → Outcome
lent_as bytes o = cond (is_node bytes) o (refused (decode bytes) BadLength)

pub lent_heard_so : (id : BusId) (dlc : ℕ) (payload output bytes : List ℕ)
    → lent_outcome (Call.hear id (dlc_of dlc) payload output) bytes ≡ lent_outcome (Call.hear id dlc payload output) bytes
lent_heard_so id dlc payload output bytes = ap (lent_as bytes) (heard_so id dlc payload output (decode bytes))

pub lent_set_up_so : (x : Stream) (s : SettingsC) (bytes : List ℕ)
    → lent_outcome (Call.set_up x (settings_of s)) bytes ≡ lent_outcome (Call.set_up x (in_numbers s)) bytes
lent_set_up_so x s bytes = ap (lent_as bytes) (set_up_so x s (decode bytes))

-- what a call leaves goes by its outcome alone
pub leaves_so : (c d : Call) {before after : List ℕ} → lent_outcome c before ≡ lent_outcome d before → Leaves c before after → Leaves d before after
leaves_so c d e l =
    record {
      length_stays = l.length_stays;
      node = l.node ∙ ap (λ (o : Outcome). o.node) e;
      refused_unchanged = λ other. l.refused_unchanged (λ done. other (ap (λ (o : Outcome). o.reply) (sym e) ∙ done));
    }
