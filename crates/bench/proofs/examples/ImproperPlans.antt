-- For each part of what makes a plan proper, a plan that fails in this part and in no other.
use Prim.Native.Nat.{ℕ}
use mathlib.Core.Path.{◌≡◌, refl}
use mathlib.Core.Bool.{Bool, true, false, ◌&&◌}
use mathlib.Core.List.{[], ◌∷◌}
use lib.ListN.{length, replicate}
use lib.Dec.{leb}
use Rattle.wire.specs.Settings.{sends}
use Rattle.bench.specs.Lists.{every}
use Rattle.bench.specs.SetUp.{Entry, Plan, accepted, same_numbers, all_agree, all_entries, is_sent, proper}
use Rattle.bench.specs.MomentTen.{five, two_m}
use Rattle.bench.proofs.examples.ExampleHistories.{computing}

-- what is asked of a plan
pub record OfPlan : Type 0 where
  pub two : Bool
  pub eight : Bool
  pub accepted : Bool
  pub agree : Bool
  pub sent : Bool

abbrev pub of_plan : Plan → OfPlan
of_plan plan =
    record {
      two = leb 2 (length plan);
      eight = leb (length plan) 8;
      accepted = every accepted plan;
      agree = all_agree plan;
      sent = every (λ (e : Entry). is_sent plan e.stream) (all_entries plan);
    }

pub record Improper (plan : Plan) (tests : OfPlan) : Type 0 where
  pub not_proper : proper plan ≡ false
  pub because : of_plan plan ≡ tests

-- stream 5 of the worked moments, but for its deliver delay
abbrev sender : ℕ → Entry
sender dd = two_m five 2 3 2 dd 1

abbrev receiver : ℕ → Entry
receiver dd = two_m five 2 3 2 dd 0

-- ── 2 to 8 modules ──
pub one_module : Improper ((sender 6 ∷ []) ∷ []) (record { two = false; eight = true; accepted = true; agree = true; sent = true })
unfolding computing
one_module = record { not_proper = refl; because = refl }

pub nine_modules :
    Improper ((sender 6 ∷ []) ∷ replicate 8 (receiver 6 ∷ [])) (record { two = true; eight = false; accepted = true; agree = true; sent = true })
unfolding computing
nine_modules = record { not_proper = refl; because = refl }

-- ── every entry accepted ──
-- dd 5 is refused, since dc + Ra + 1 is 6
pub refused_settings_law :
    Improper ((sender 5 ∷ []) ∷ (receiver 5 ∷ []) ∷ []) (record { two = true; eight = true; accepted = false; agree = true; sent = true })
unfolding computing
refused_settings_law = record { not_proper = refl; because = refl }

-- a module has the stream twice
pub stream_taken :
    Improper ((sender 6 ∷ []) ∷ (receiver 6 ∷ receiver 6 ∷ []) ∷ [])
    (record { two = true; eight = true; accepted = false; agree = true; sent = true })
unfolding computing
stream_taken = record { not_proper = refl; because = refl }

-- ── each stream with equal settings and one sender ──
-- two modules whose entries do not agree: whether class and numbers are equal, and whether both send
pub record Disagree (e f : Entry) (equal both_send : Bool) : Type 0 where
  pub improper : Improper ((e ∷ []) ∷ (f ∷ []) ∷ []) (record { two = true; eight = true; accepted = true; agree = false; sent = true })
  pub numbers : same_numbers e.settings f.settings ≡ equal
  pub senders : (sends e.settings && sends f.settings) ≡ both_send

pub unequal_settings : Disagree (sender 6) (receiver 7) false false
unfolding computing
unequal_settings = record { improper = record { not_proper = refl; because = refl }; numbers = refl; senders = refl }

pub two_senders : Disagree (sender 6) (sender 6) true true
unfolding computing
two_senders = record { improper = record { not_proper = refl; because = refl }; numbers = refl; senders = refl }

pub no_sender :
    Improper ((receiver 6 ∷ []) ∷ (receiver 6 ∷ []) ∷ []) (record { two = true; eight = true; accepted = true; agree = true; sent = false })
unfolding computing
no_sender = record { not_proper = refl; because = refl }

-- and with one sender of equal settings nothing is wrong
pub a_proper_plan : proper ((sender 6 ∷ []) ∷ (receiver 6 ∷ []) ∷ []) ≡ true
unfolding computing
a_proper_plan = refl
