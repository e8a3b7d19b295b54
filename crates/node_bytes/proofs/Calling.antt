-- What a call on a lent node answers and leaves, from what the node's own call does.
use Rattle.std.proofs.Common.{◌≡◌, ℕ, List, length, refl, sym, ap, ◌∙◌, eq-eqb, ne_eqb}
use Rattle.wire.specs.declared.reply.Reply.TheVariants.{Done, BadLength}
use Rattle.wire.specs.Delivered.{over}
use Rattle.node.specs.declared.slots.Slot.{Slot}
use Rattle.node.specs.Nodes.{Outcome, refused}
use Rattle.node.specs.Clock.{rolled}
use Rattle.node.specs.Calls.{Call, outcome}
use Rattle.node_bytes.specs.Layout.{node_size}
use Rattle.node_bytes.specs.Decoding.{decode}
use Rattle.node_bytes.specs.Lent.{with_slot}
use Rattle.node_bytes.specs.LentCalls.{lent_outcome, Leaves}

module _ (c : Call) (before : List ℕ) where
  -- ── its outcome ──
  pub no_node_law : (length before ≡ node_size → ⊥) → lent_outcome c before ≡ refused (decode before) BadLength
  no_node_law other = rw (ne_eqb (length before) node_size other)

  pub as_node_law : length before ≡ node_size → lent_outcome c before ≡ outcome rolled c (decode before)
  as_node_law whole = rw (eq-eqb (length before) node_size whole)

  module _ {o : Outcome} (does : lent_outcome c before ≡ o) where
    -- ── what it leaves ──
    pub left_alone : decode before ≡ o.node → Leaves c before before
    left_alone same =
        record { length_stays = refl; node = same ∙ ap (λ (p : Outcome). p.node) (sym does); refused_unchanged = λ other. refl }

    pub left_done : o.reply ≡ Done → {after : List ℕ} → length after ≡ length before → decode after ≡ o.node → Leaves c before after
    left_done done long left =
        record {
          length_stays = long;
          node = left ∙ ap (λ (p : Outcome). p.node) (sym does);
          refused_unchanged = λ other. absurd (other (ap (λ (p : Outcome). p.reply) does ∙ done));
        }

  -- ── what is told: the answer, the lent output (none is lent to set up and request), and what it leaves ──
  module _ {R : Type 0} (answer : Outcome → R) (output : List ℕ) where
    abbrev pub Told : R → (out after : List ℕ) → Type 0
    Told r out after = (r ≡ answer (lent_outcome c before)) × ((out ≡ over (lent_outcome c before).bytes output) × Leaves c before after)

    told : {o : Outcome} → lent_outcome c before ≡ o → {r : R} → r ≡ answer o → {out : List ℕ} → out ≡ over o.bytes output → {after : List ℕ}
        → Leaves c before after → Told r out after
    told does answers writes leaves =
        (answers ∙ ap answer (sym does), (writes ∙ ap (λ (p : Outcome). over p.bytes output) (sym does), leaves))

    -- a buffer of another length
    pub not_a_node : (length before ≡ node_size → ⊥) → Told (answer (refused (decode before) BadLength)) output before
    not_a_node other = told (no_node_law other) refl refl (left_alone (no_node_law other) refl)

    -- a node
    module _ (whole : length before ≡ node_size) {o : Outcome} (does : outcome rolled c (decode before) ≡ o) where
      so : lent_outcome c before ≡ o
      so = as_node_law whole ∙ does

      pub call_refused : decode before ≡ o.node → {r : R} → r ≡ answer o → output ≡ over o.bytes output → Told r output before
      call_refused same answers nothing = told so answers nothing (left_alone so same)

      pub call_done : o.reply ≡ Done → {r : R} → r ≡ answer o → {out : List ℕ} → out ≡ over o.bytes output → {after : List ℕ}
          → length after ≡ length before → decode after ≡ o.node → Told r out after
      call_done done answers writes long left = told so answers writes (left_done so done long left)

      -- a slot is stored
      pub slot_put : o.reply ≡ Done → {r : R} → r ≡ answer o → {out : List ℕ} → out ≡ over o.bytes output → (i : ℕ) (x : Slot) {after : List ℕ}
          → (length after ≡ length before) × (decode after ≡ with_slot i x (decode before)) → with_slot i x (decode before) ≡ o.node → Told r out after
      slot_put done answers writes i x (long, left) made = call_done done answers writes long (left ∙ made)
