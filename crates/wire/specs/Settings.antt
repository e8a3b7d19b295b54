-- The settings of a stream that are within the rules.
use Rattle.std.specs.Prelude.{◌≡◌, ◌⊎◌, ℕ, ◌+◌, ◌≤◌, Bool, ◌&&◌, ◌||◌, eqb, leb}
use Rattle.wire.specs.declared.ids.Stream.{Stream}
use Rattle.wire.specs.declared.settings.Settings.{Settings}
use Rattle.wire.specs.Identifiers.{max_stream}

abbrev pub max_data_reach : ℕ
max_data_reach = 8000

abbrev pub max_confirm_delay : ℕ
max_confirm_delay = 8000

abbrev pub max_abort_reach : ℕ
max_abort_reach = 4000

abbrev pub max_deliver_delay : ℕ
max_deliver_delay = 16000

-- in the order of the rules paper; a new field is added here and in `src/settings.rt`
abbrev pub settings : (role class rd dc ra dd : ℕ) → Settings
settings role class rd dc ra dd = record { role = role; class = class; rd = rd; dc = dc; ra = ra; dd = dd }

-- of each class, what its rules leave open
abbrev pub of_plain : (role : ℕ) → Settings
of_plain role = settings role 0 0 0 0 0

abbrev pub of_imd : (role rd dd : ℕ) → Settings
of_imd role rd dd = settings role 1 rd 0 0 dd

abbrev pub of_two_message : (role rd dc ra dd : ℕ) → Settings
of_two_message role rd dc ra dd = settings role 2 rd dc ra dd

-- of a slot that is not set up
abbrev pub no_settings : Settings
no_settings = settings 0 0 0 0 0 0

-- roles: 0 receive, 1 send
abbrev pub receives : Settings → Bool
receives s = eqb s.role 0

abbrev pub sends : Settings → Bool
sends s = eqb s.role 1

-- classes: 0 plain, 1 IMD, 2 two-message
abbrev pub is_plain : Settings → Bool
is_plain s = eqb s.class 0

abbrev pub is_imd : Settings → Bool
is_imd s = eqb s.class 1

abbrev pub is_two_message : Settings → Bool
is_two_message s = eqb s.class 2

-- the four numbers of each class
abbrev pub plain : (rd dc ra dd : ℕ) → Bool
plain rd dc ra dd = eqb rd 0 && eqb dc 0 && eqb ra 0 && eqb dd 0

abbrev pub imd : (rd dc ra dd : ℕ) → Bool
imd rd dc ra dd =
    leb 1 rd && leb rd max_data_reach && eqb dc 0 && eqb ra 0 && leb rd dd && leb dd max_deliver_delay

abbrev pub two_message : (rd dc ra dd : ℕ) → Bool
two_message rd dc ra dd =
    leb 1 rd && leb rd max_data_reach && leb rd dc && leb dc max_confirm_delay && leb 1 ra && leb ra max_abort_reach
    && leb (dc + ra + 1) dd && leb dd max_deliver_delay

unfoldable pub legal : Stream → Settings → Bool
legal x s =
    leb x.0 max_stream && leb s.role 1 &&
    (is_plain s && plain s.rd s.dc s.ra s.dd
    || is_imd s && imd s.rd s.dc s.ra s.dd
    || is_two_message s && two_message s.rd s.dc s.ra s.dd)

-- what `legal` tells (proofs/LegalSettings.antt), in the rules paper's words
abbrev pub Between : (low n high : ℕ) → Type 0
Between low n high = (low ≤ n) × (n ≤ high)

pub record PlainNumbers (s : Settings) : Type 0 where
  pub class : s.class ≡ 0
  pub data_reach : s.rd ≡ 0
  pub confirm_delay : s.dc ≡ 0
  pub abort_reach : s.ra ≡ 0
  pub deliver_delay : s.dd ≡ 0

pub record ImdNumbers (s : Settings) : Type 0 where
  pub class : s.class ≡ 1
  pub data_reach : Between 1 s.rd max_data_reach
  pub confirm_delay : s.dc ≡ 0
  pub abort_reach : s.ra ≡ 0
  pub deliver_delay : Between s.rd s.dd max_deliver_delay

pub record TwoMessageNumbers (s : Settings) : Type 0 where
  pub class : s.class ≡ 2
  pub data_reach : Between 1 s.rd max_data_reach
  pub confirm_delay : Between s.rd s.dc max_confirm_delay
  pub abort_reach : Between 1 s.ra max_abort_reach
  pub deliver_delay : Between (s.dc + s.ra + 1) s.dd max_deliver_delay

pub record Legal (x : Stream) (s : Settings) : Type 0 where
  pub stream : x.0 ≤ max_stream
  pub role : (s.role ≡ 0) ⊎ (s.role ≡ 1)
  pub numbers : (PlainNumbers s ⊎ ImdNumbers s) ⊎ TwoMessageNumbers s
