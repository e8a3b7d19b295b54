-- What is given to the node's calls of a DLC and of settings is answered as the numbers themselves are: settings that are legal fit.
use mathlib.Core.Path.{◌≡◌, refl, sym, ap, ◌∙◌}
use mathlib.Core.Bool.{Bool, true, false, cond, and-false, false≢true}
use mathlib.Core.Logic.{◌⊎◌, inl, inr}
use mathlib.Core.List.{List}
use Prim.Native.Nat.{ℕ, ◌≤◌, ◌<◌}
use native.Mathlib.Omega.{arith}
use lib.ListN.{length}
use lib.Dec.{leb, ltb}
use borrow.Author.Tests.{lt-ltb, ltb-true, ltb-false}
use Rattle.wire.specs.declared.ids.Stream.{Stream}
use Rattle.wire.specs.declared.ids.BusId.{BusId}
use Rattle.wire.specs.declared.reply.Reply.TheVariants.{ShortOutput, IdentifierTooBig, DlcTooBig}
use Rattle.wire.specs.Identifiers.{max_stream, max_bus_id}
use Rattle.wire.specs.Frames.{max_dlc}
use Rattle.wire.specs.Tells.{Tells, at_most, in_words, ◌and◌}
use Rattle.wire.specs.Settings.{legal, PlainNumbers, ImdNumbers, TwoMessageNumbers}
use Rattle.wire.proofs.LegalSettings.{legal_tells}
use Rattle.node.specs.declared.Node.{Node}
use Rattle.node.specs.Nodes.{Outcome, refused}
use Rattle.node.specs.Hear.{hear_room, hear}
use Rattle.node.specs.SetUp.{set_up}
use Rattle.firmware.specs.declared.judged.SettingsC.{SettingsC}
use Rattle.firmware.specs.Judged.{dlc_of, in_numbers, refused_settings, fit, settings_of}

-- ── DLCs ──
-- above the highest none is a frame's, and each is answered alike
module _ (id : BusId) (payload output : List ℕ) (n : Node) where
  abbrev high_answer : Outcome
  high_answer =
      cond (ltb (length output) hear_room) (refused n ShortOutput) (cond (ltb max_bus_id id.0) (refused n IdentifierTooBig) (refused n DlcTooBig))

  high_heard : (dlc : ℕ) → max_dlc < dlc → hear id dlc payload output n ≡ high_answer
  unfolding hear
  high_heard dlc high = rw (lt-ltb max_dlc dlc high)

pub heard_so : (id : BusId) (dlc : ℕ) (payload output : List ℕ) (n : Node) → hear id (dlc_of dlc) payload output n ≡ hear id dlc payload output n
heard_so id dlc payload output n = go (ltb max_dlc dlc) refl
  where
    go : (b : Bool) → ltb max_dlc dlc ≡ b → hear id (dlc_of dlc) payload output n ≡ hear id dlc payload output n
    go true e =
        let high = ltb-true max_dlc dlc e in
        high_heard id payload output n (dlc_of dlc) (omega arith) ∙ sym (high_heard id payload output n dlc high)
    go false e =
        let low = ltb-false max_dlc dlc e in
        let same : dlc_of dlc ≡ dlc = omega arith in
        ap (λ (d : ℕ). hear id d payload output n) same

-- ── settings ──
pub record FitSettings (s : SettingsC) : Type 0 where
  pub role : s.role ≤ 255
  pub class : s.class ≤ 255
  pub data_reach : s.rd ≤ 65535
  pub confirm_delay : s.dc ≤ 65535
  pub abort_reach : s.ra ≤ 65535
  pub deliver_delay : s.dd ≤ 65535

pub fit_tells : (s : SettingsC) → Tells (fit s) (FitSettings s)
fit_tells s =
    in_words
    (λ (((((role, class), rd), dc), ra), dd). record {
      role = role;
      class = class;
      data_reach = rd;
      confirm_delay = dc;
      abort_reach = ra;
      deliver_delay = dd;
    })
    (λ h. (((((h.role, h.class), h.data_reach), h.confirm_delay), h.abort_reach), h.deliver_delay))
    (at_most s.role 255 and at_most s.class 255
    and at_most s.rd 65535 and at_most s.dc 65535 and at_most s.ra 65535 and at_most s.dd 65535)

module _ (x : Stream) (s : SettingsC) where
  low_role : (s.role ≡ 0) ⊎ (s.role ≡ 1) → s.role ≤ 255
  low_role (inl h) = omega arith
  low_role (inr h) = omega arith

  numbers_fit : s.role ≤ 255 → (PlainNumbers (in_numbers s) ⊎ ImdNumbers (in_numbers s)) ⊎ TwoMessageNumbers (in_numbers s) → FitSettings s
  numbers_fit role (inl (inl h)) = record {
    role = role;
    class = omega arith;
    data_reach = omega arith;
    confirm_delay = omega arith;
    abort_reach = omega arith;
    deliver_delay = omega arith;
  }
  numbers_fit role (inl (inr h)) = record {
    role = role;
    class = omega arith;
    data_reach = omega arith;
    confirm_delay = omega arith;
    abort_reach = omega arith;
    deliver_delay = omega arith;
  }
  numbers_fit role (inr h) = record {
    role = role;
    class = omega arith;
    data_reach = omega arith;
    confirm_delay = omega arith;
    abort_reach = omega arith;
    deliver_delay = omega arith;
  }

  legal_fits : legal x (in_numbers s) ≡ true → FitSettings s
  legal_fits e = let l = (legal_tells x (in_numbers s)).says e in numbers_fit (low_role l.role) l.numbers

  unfit_refused : fit s ≡ false → legal x (in_numbers s) ≡ false
  unfit_refused unfit = go (legal x (in_numbers s)) refl
    where
      go : (b : Bool) → legal x (in_numbers s) ≡ b → b ≡ false
      go true e = absurd (false≢true (sym unfit ∙ (fit_tells s).back (legal_fits e)))
      go false e = refl

refused_settings_law : (x : Stream) → legal x refused_settings ≡ false
unfolding legal
refused_settings_law x = rw (and-false (leb x.0 max_stream))

pub set_up_so : (x : Stream) (s : SettingsC) (n : Node) → set_up x (settings_of s) n ≡ set_up x (in_numbers s) n
unfolding settings_of set_up
set_up_so x s n = go (fit s) refl
  where
    go : (b : Bool) → fit s ≡ b → set_up x (cond b (in_numbers s) refused_settings) n ≡ set_up x (in_numbers s) n
    go true e = refl
    go false e = rw (unfit_refused x s e, refused_settings_law x)
