-- `text::payloads::hex` meets its contract: a law of `PayloadLaws` for each of its answers.
use mathlib.Core.Path.{sym, ◌∙◌}
use lib.ListN.{length}
use Rattle.text.proofs.PayloadLaws.{dash_same, dash_empty, none, hex_pairs, pairs_are_hex}
use Rattle.text.proofs.payloads.hex.Goals as goal

pub returns-then-is : goal.returns-then-is
returns-then-is c =
    let s = c.args.word.now in
    let lent = c.args.into.now in
    let a = dash_empty (length lent) s lent (sym (dash_same s) ∙ sym c.if-is.ensures) in
    record { value = a.0; into_after = a.1 }

pub returns-then-not-is_hex : goal.returns-then-not-is_hex
returns-then-not-is_hex c =
    let s = c.args.word.now in
    let lent = c.args.into.now in
    let a = none (length lent) s lent (sym (dash_same s) ∙ sym c.if-is.ensures) (sym c.if-not-is_hex.ensures) in
    record { value = a.0; into_after = a.1 }

pub decode-requires : goal.decode-requires
decode-requires c = hex_pairs (length c.args.into.now) c.args.word.now c.args.into.now (sym c.if-not-is_hex.ensures)

pub returns : goal.returns
returns c =
    let s = c.args.word.now in
    let lent = c.args.into.now in
    let a = pairs_are_hex (length lent) s lent (sym (dash_same s) ∙ sym c.if-is.ensures) (sym c.if-not-is_hex.ensures) c.decode.ensures in
    record { value = a.0; into_after = a.1 }
