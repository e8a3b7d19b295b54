-- The tally: the numbers that it counts, what one more reply makes of it, and what it is after a list of replies.
use Rattle.std.specs.Prelude.{ℕ, suc, ◌+◌, min, ◌≡◌, Bool, cond, ◌&&◌, List, [], ◌∷◌, map, length, get_or, set, replicate, eqb, ltb}
use Rattle.std.specs.Prelude.{Option, Some, None, Result, Ok, Err}
use Rattle.wire.specs.declared.reply.Reply.{Reply}
use Rattle.wire.specs.declared.reply.Reply.TheVariants.{Done}
use Rattle.wire.specs.Replies.{number_of}
use Rattle.module.specs.declared.tally.Tally.{Tally}

-- the reply numbers that are counted, in the tally's order
abbrev pub counted : List ℕ
counted = 0 ∷ 1 ∷ 2 ∷ 3 ∷ 4 ∷ 5 ∷ 6 ∷ 7 ∷ 8 ∷ 9 ∷ 10 ∷ 11 ∷ 12 ∷ 18 ∷ 19 ∷ 20 ∷ 21 ∷ []

-- where a number first stands in a list; past its end where it does not
unfoldable pub position : ℕ → List ℕ → ℕ
position n [] = 0
position n (x ∷ xs) = cond (eqb x n) 0 (suc (position n xs))

-- where the count of a number stands
abbrev pub place_in_tally : ℕ → Option ℕ
place_in_tally n = cond (ltb (position n counted) (length counted)) (Some (position n counted)) None

-- where the count of a reply stands
abbrev pub place_of : Reply → ℕ
place_of r = position (number_of r) counted

-- a count stays here once there
abbrev pub most : ℕ
most = 4294967295

-- before any call
abbrev pub zero_tally : Tally
zero_tally = record { counts = replicate (length counted) 0 }

abbrev pub count_of : Reply → Tally → ℕ
count_of r t = get_or t.counts (place_of r) 0

-- the reply of a call that answers a Result
abbrev pub reply_in : {A : Type 0} → Result A Reply → Reply
reply_in (Ok value) = Done
reply_in (Err reply) = reply

-- the count of the reply goes up by one, unless it is at the most
unfoldable pub tallied : Tally → Reply → Tally
tallied t r = cond (ltb (count_of r t) most) (record { counts = set t.counts (place_of r) (count_of r t + 1) }) t

-- after a list of replies, the first of them first
abbrev pub tallied_all : Tally → List Reply → Tally
tallied_all t [] = t
tallied_all t (r ∷ rs) = tallied_all (tallied t r) rs

-- how many of the replies have this number
abbrev pub occurrences : ℕ → List Reply → ℕ
occurrences n [] = 0
occurrences n (r ∷ rs) = cond (eqb (number_of r) n) (suc (occurrences n rs)) (occurrences n rs)

-- a number of replies as a count shows it
abbrev pub capped : ℕ → ℕ
capped n = min n most

-- the tally of a list of replies: for each number, in the tally's order, how often it was given
abbrev pub tally_of : List Reply → Tally
tally_of rs = record { counts = map (λ n. capped (occurrences n rs)) counted }

-- ── in lent counts, by the reply's number ──
-- they are a tally's, and the number is one that is counted
abbrev pub has_count : (number : ℕ) → (counts : List ℕ) → Bool
has_count n counts = eqb (length counts) (length counted) && ltb (position n counted) (length counted)

-- its count goes up by one, unless it is at the most
unfoldable pub counted_in : (number : ℕ) → (counts : List ℕ) → List ℕ
counted_in n counts =
    let count = get_or counts (position n counted) 0 in
    cond (has_count n counts && ltb count most) (set counts (position n counted) (count + 1)) counts

-- the number of a reply is counted as the reply is
abbrev pub CountedAsTally : Type 0
CountedAsTally = (t : Tally) (r : Reply) → length t.counts ≡ length counted → counted_in (number_of r) t.counts ≡ (tallied t r).counts
