-- What the settings test tells a node of settings that pass it.
use Rattle.std.proofs.Common.{◌≡◌, ◌≤◌, true, ◌⊎◌, inl, inr, arith, eq-eqb}
use Rattle.wire.specs.declared.ids.Stream.{Stream}
use Rattle.wire.specs.declared.settings.Settings.{Settings}
use Rattle.wire.specs.Settings.{receives, sends, is_plain, is_imd, is_two_message, legal, max_data_reach, max_deliver_delay}
use Rattle.wire.specs.Settings.{PlainNumbers, ImdNumbers, TwoMessageNumbers}
use Rattle.wire.proofs.LegalSettings.{legal_tells}

pub record Lawful (s : Settings) : Type 0 where
  pub a_role : (receives s ≡ true) ⊎ (sends s ≡ true)
  pub a_class : ((is_plain s ≡ true) ⊎ (is_imd s ≡ true)) ⊎ (is_two_message s ≡ true)
  pub confirmed_first : s.dc ≤ s.dd
  pub reach_small : s.rd ≤ max_data_reach
  pub delay_small : s.dd ≤ max_deliver_delay

role_of : (s : Settings) → (s.role ≡ 0) ⊎ (s.role ≡ 1) → (receives s ≡ true) ⊎ (sends s ≡ true)
role_of s (inl e) = inl (eq-eqb _ _ e)
role_of s (inr e) = inr (eq-eqb _ _ e)

class_of : (s : Settings) → (PlainNumbers s ⊎ ImdNumbers s) ⊎ TwoMessageNumbers s
    → ((is_plain s ≡ true) ⊎ (is_imd s ≡ true)) ⊎ (is_two_message s ≡ true)
class_of s (inl (inl h)) = inl (inl (eq-eqb _ _ h.class))
class_of s (inl (inr h)) = inl (inr (eq-eqb _ _ h.class))
class_of s (inr h) = inr (eq-eqb _ _ h.class)

bounds_of : (s : Settings) → (PlainNumbers s ⊎ ImdNumbers s) ⊎ TwoMessageNumbers s
    → (s.dc ≤ s.dd) × (s.rd ≤ max_data_reach) × (s.dd ≤ max_deliver_delay)
bounds_of s (inl (inl h)) = omega arith
bounds_of s (inl (inr h)) = omega arith
bounds_of s (inr h) = omega arith

pub lawful : (x : Stream) (s : Settings) → legal x s ≡ true → Lawful s
lawful x s e =
    let h = (legal_tells x s).says e in
    let b = bounds_of s h.numbers in
    record {
      a_role = role_of s h.role;
      a_class = class_of s h.numbers;
      confirmed_first = b.0;
      reach_small = b.1;
      delay_small = b.2;
    }
