-- The ways to each answer of the functions.
use Rattle.std.proofs.Common.{◌≡◌, ℕ, ◌+◌, ◌<◌, ◌≤◌, Bool, true, false, not, ◌&&◌, eqb, List, [], ◌∷◌, ◌++◌, length, take, drop, sym, refl, ap, subst}
use Rattle.std.proofs.Common.{◌∙◌, true≢false, le-ltb, lt-ltb}
use Rattle.std.specs.Prelude.{reverse, cond, Result, Ok, Err, MatchResult}
use Rattle.std.specs.List.{fold}
use Rattle.std.proofs.lemmas.List.{reverse-append}
use Rattle.wire.specs.Delivered.{over}
use Rattle.heard.specs.declared.reply.Reply.TheVariants.{ShortOutput, CutRecord}
use Rattle.heard.specs.Replies.{Reply, Done, Refused, number_of}
use Rattle.heard.specs.Reading.{HeardAt, heard_at}
use Rattle.wire.specs.declared.reply.Reply as node_reply
use Rattle.wire.specs.Answers.{is_done, answered}
use Rattle.node.specs.declared.Node.{Node}
use Rattle.node.specs.declared.Heard.{Heard}
use Rattle.node.specs.declared.Ticked.{Ticked}
use Rattle.node.specs.Nodes.{Outcome, as_heard, as_ticked}
use Rattle.node.specs.Hear.{hear}
use Rattle.node.specs.Tick.{tick_room, tick}
use Rattle.node.specs.declared.slots.Slot.{Slot}
use Rattle.node.specs.Clock.{Clock, rolled}
use Rattle.node.proofs.Cases.{by_case}
use Rattle.node.proofs.hear.Cases.{hear_cases}
use Rattle.node.proofs.tick.Cases.{tick_cases}
use Rattle.node.proofs.Choices.{either_way}
use Rattle.playback.specs.declared.Playback.{Playback}
use Rattle.playback.specs.declared.step.Stepped.{Stepped}
use Rattle.playback.specs.declared.step.Stepped.TheVariants.{On}
use Rattle.playback.specs.Runs.{StepPromises}
use Rattle.playback.specs.Gaps.{gap_from}
use Rattle.playback.specs.Quiet.{with_slot, quiet_in, quiet}
use Rattle.playback.specs.Steps.{MoreBytes, MoreRoom, Over, in64, stopped, jumped, tick_step, hear_step, towards, at_fault, Step, step, as_stepped}

-- ── how long a node stays as it is ──
-- the least of all, from the last slot up
module _ (clock : Clock) (now most : ℕ) where
  abbrev on_slot : ℕ → Slot → ℕ
  on_slot others x = with_slot clock now x others

  fold_behind : (a : ℕ) (xs : List Slot) (x : Slot) → fold on_slot a (xs ++ x ∷ []) ≡ with_slot clock now x (fold on_slot a xs)
  fold_behind a [] x = refl
  fold_behind a (y ∷ ys) x = fold_behind (on_slot a y) ys x

  pub quiet_from_the_last : (xs : List Slot) → fold on_slot most (reverse xs) ≡ quiet_in clock now most xs
  unfolding quiet_in
  quiet_from_the_last [] = refl
  quiet_from_the_last (x ∷ xs) =
      ap (fold on_slot most) (reverse-append (x ∷ []) xs) ∙ fold_behind most (reverse xs) x ∙ ap (with_slot clock now x) (quiet_from_the_last xs)

-- ── the calls of the node ──
-- how much a call wrote is what it answers, or nothing where it refuses
module _ {A : Type 0} (o : Outcome) (value : A) (written : A → ℕ) (n : ℕ) (all : written value ≡ length o.bytes)
    (silent : is_done o.reply ≡ false → o.bytes ≡ []) where
  abbrev Says : Result A node_reply.Reply → Type 0
  Says r = MatchResult r (λ x. n ≡ written x) (λ reply. n ≡ 0)

  by_done : (t : Bool) → is_done o.reply ≡ t → Says (cond t (Ok value) (Err o.reply)) → n ≡ length o.bytes
  by_done true e m = m ∙ all
  by_done false e m = rw (silent e) m

  pub wrote : (r : Result A node_reply.Reply) → r ≡ answered o.reply value → Says r → n ≡ length o.bytes
  wrote r e m = by_done (is_done o.reply) refl (subst Says e m)

module _ (p : Playback) where
  pub ticks_once : (output : List ℕ) (r : Result Ticked node_reply.Reply) (n : ℕ) → r ≡ as_ticked (tick rolled output p.node)
      → MatchResult r (λ t. n ≡ t.written) (λ reply. n ≡ 0) → On 0 n ≡ as_stepped (tick_step output p)
  unfolding tick_step
  ticks_once output r n e m =
      let o = tick rolled output p.node in
      let silent : is_done o.reply ≡ false → o.bytes ≡ [] =
      by_case (λ (x : Outcome). is_done x.reply ≡ false → x.bytes ≡ []) (λ q why bad. refl) (λ facts bad. absurd (true≢false bad))
      (tick_cases output rolled p.node).case in
      ap (λ (k : ℕ). On 0 k) (wrote o _ (λ (t : Ticked). t.written) n refl silent r e m)

  -- the payload is so many bytes of the window
  pub hears_once : (r : HeardAt) (window output left : List ℕ) (d : Result Heard node_reply.Reply) (node : Node) (n written : ℕ) → n ≡ r.length
      → (d ≡ as_heard (hear r.heard.id r.heard.dlc (take n (drop r.payload window)) output p.node))
      × (node ≡ (hear r.heard.id r.heard.dlc (take n (drop r.payload window)) output p.node).node)
      × (left ≡ over (hear r.heard.id r.heard.dlc (take n (drop r.payload window)) output p.node).bytes output)
      → MatchResult d (λ h. written ≡ h.written) (λ reply. written ≡ 0)
      → (On r.next written ≡ as_stepped (hear_step r window output p))
      × (record { node = node; ticks = p.ticks; taken = in64 (p.taken + r.next) } ≡ (hear_step r window output p).playback)
      × (left ≡ over (hear_step r window output p).bytes output)
  unfolding hear_step
  hears_once r window output left d node n written long (e, same, w) m =
      let payload = take n (drop r.payload window) in
      let o = hear r.heard.id r.heard.dlc payload output p.node in
      let silent : is_done o.reply ≡ false → o.bytes ≡ [] =
      by_case (λ (x : Outcome). is_done x.reply ≡ false → x.bytes ≡ []) (λ q why bad. refl) (λ facts bad. absurd (true≢false bad))
      (hear_cases r.heard.id r.heard.dlc payload output p.node).case in
      let all = wrote o _ (λ (h : Heard). h.written) written refl silent d e m in
      rw (← long) (ap (λ (k : ℕ). On r.next k) all, rw same refl, w)

  -- at a record that cannot be read
  module _ (reply : Reply) (ended : Bool) where
    pub more_may_follow : eqb (number_of reply) (number_of (Refused CutRecord)) && not ended ≡ true → stopped MoreBytes Done 0 p ≡ at_fault reply ended p
    more_may_follow t = rw t

    pub no_more_follows : eqb (number_of reply) (number_of (Refused CutRecord)) && not ended ≡ false → stopped Over reply p.taken p ≡ at_fault reply ended p
    no_more_follows t = rw t

    pub fault_changes_nothing : (output : List ℕ) → (p ≡ (at_fault reply ended p).playback) × (output ≡ over (at_fault reply ended p).bytes output)
    fault_changes_nothing output =
        let cut = eqb (number_of reply) (number_of (Refused CutRecord)) && not ended in
        (sym (either_way (λ (s : Step). s.playback) cut refl refl), sym (either_way (λ (s : Step). over s.bytes output) cut refl refl))

-- ── a step ──
module _ (window : List ℕ) (ended : Bool) (output : List ℕ) (p : Playback) where
  pub nothing_left : ended && eqb (length window) 0 ≡ true → step window ended output p ≡ stopped Over Done 0 p
  unfolding step
  nothing_left e = rw e

  module _ (more : ended && eqb (length window) 0 ≡ false) (read : HeardAt) (r : read ≡ heard_at window 0) where
    pub not_read : read.ok ≡ false → step window ended output p ≡ at_fault read.reply ended p
    unfolding step
    not_read e = rw (more, ← r, e)

    module _ (ok : read.ok ≡ true) where
      pub no_room : length output < tick_room → step window ended output p ≡ stopped MoreRoom (Refused ShortOutput) 0 p
      unfolding step
      no_room short = rw (more, ← r, ok, lt-ltb _ _ short)

      module _ (room : tick_room ≤ length output) (gap still : ℕ) (g : gap ≡ gap_from p.ticks read.heard) (k : still ≡ quiet rolled gap p.node)
          (ready : Playback) (j : ready ≡ jumped still p) where
        pub to_a_tick : still < gap → step window ended output p ≡ tick_step output ready
        unfolding step towards
        to_a_tick before = rw (more, ← r, ok, le-ltb _ _ room, ← g, ← k, lt-ltb _ _ before, j)

        pub to_the_record : gap ≤ still → step window ended output p ≡ hear_step read window output ready
        unfolding step towards
        to_the_record beyond = rw (more, ← r, ok, le-ltb _ _ room, ← g, ← k, le-ltb _ _ beyond, j)

-- what the code answers and leaves
pub does : (window : List ℕ) (ended : Bool) (output : List ℕ) (p : Playback) {r : Stepped} {after : Playback} {left : List ℕ} {s : Step}
    → step window ended output p ≡ s → (r ≡ as_stepped s) × (after ≡ s.playback) × (left ≡ over s.bytes output)
    → StepPromises window ended output p r after left
does window ended output p e all = rw e all
