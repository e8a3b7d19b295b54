-- The two-message class, 2M, as an instance: what its slot does, and when its numbers fit together.
use Rattle.std.specs.Prelude.{ℕ, ◌+◌, ◌-◌, ◌≤◌, Bool, true, false, ◌&&◌, ◌||◌, cond, [], ◌∷◌, ltb, eqb}
use Rattle.one_stream.specs.Sendings.{Bytes, Delays, Some}
use Rattle.one_stream.specs.Classes.{Class}

-- the settings test asks this, with e = 0
pub record Fit (S : Delays) : Type 0 where
  pub confirm_after_data : S.rd ≤ S.dc
  pub deliver_after_abort : S.dc + S.ra + 1 + S.e ≤ S.dd

pub data Slot : Type 0 where
  empty : Slot
  held : (stamp : ℕ) (confirmed : Bool) (bytes : Bytes) → Slot

abbrev pub same_bytes : Bytes → Bytes → Bool
same_bytes [] [] = true
same_bytes [] (y ∷ ys) = false
same_bytes (x ∷ xs) [] = false
same_bytes (x ∷ xs) (y ∷ ys) = eqb x y && same_bytes xs ys

-- held, if nothing is; a duplicate moves the stamp; other bytes change nothing
abbrev pub data_slot : ℕ → Bytes → Slot → Slot
data_slot n m empty = held n false m
data_slot n m (held s c b) = cond (same_bytes b m) (held n c b) (held s c b)

abbrev pub conf_slot : Slot → Slot
conf_slot empty = empty
conf_slot (held s c b) = held s true b

abbrev pub is_empty : Slot → Bool
is_empty empty = true
is_empty (held s c b) = false

-- unconfirmed and older than dc
abbrev pub late : Delays → ℕ → Slot → Bool
late S n empty = false
late S n (held s true b) = false
late S n (held s false b) = ltb S.dc (n - s)

-- confirmed and older than dd
abbrev pub due : Delays → ℕ → Slot → Bool
due S n empty = false
due S n (held s true b) = ltb S.dd (n - s)
due S n (held s false b) = false

abbrev pub bytes_of : Slot → Bytes
bytes_of empty = []
bytes_of (held s c b) = b

abbrev pub two_m : Delays → Class
two_m S =
    record {
      Slot = Slot;
      idle = empty;
      on_data = data_slot;
      on_conf = conf_slot;
      on_code2 = λ n b s. empty;
      on_given = λ s. s;
      on_full = λ n s. s;
      on_tick = λ n s. cond (late S n s || due S n s) empty s;
      refuses = is_empty;
      late = late S;
      payload = λ s. [];
      carried = λ m. [];
      merges = true;
      due = due S;
      held = bytes_of;
      hold = S.rd + S.dd + S.e;
      Ready = Some;
      Done = Some;
    }
