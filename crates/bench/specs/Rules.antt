-- The bench rules 1 to 4, as tests that compute, and what it is for a history to keep them.
use Rattle.std.specs.Prelude.{ℕ, ◌+◌, Bool, true, false, not, ◌&&◌, ◌||◌, List, [], ◌∷◌, leb}
use Rattle.wire.specs.declared.ids.Stream.{Stream}
use Rattle.wire.specs.declared.settings.Settings.{Settings}
use Rattle.wire.specs.Settings.{is_plain, is_two_message}
use Rattle.bench.specs.Lists.{every, each}
use Rattle.bench.specs.Bench.{Moment, never, sent, Frame, Book, Ledger, Bench, is_live, now, book_of, settings_of, Which, the_payload}
use Rattle.bench.specs.Bench.{the_confirmation, the_abort, frame_of, owner_of}
use Rattle.bench.specs.Events.{Event, asks, gives, sends, ticks, dies, is_next, step, run}

-- ── what the books say ──
abbrev pub was_sent : Frame → Bool
was_sent f = elim f.sendings [ never ↦ false | sent first last full ↦ true ]

-- the last sending was full; none follows a full one
abbrev pub was_full : Frame → Bool
was_full f = elim f.sendings [ never ↦ false | sent first last full ↦ full ]

-- the last sending was short
abbrev pub omission : Frame → Bool
omission f = was_sent f && not (was_full f)

-- `to` is within R ticks of `from`, the R-th included, as every module counts (moments of one bench have a count for each module)
abbrev pub within : (R : ℕ) → (from to : Moment) → Bool
within R [] [] = true
within R [] (t ∷ to) = false
within R (f ∷ from) [] = false
within R (f ∷ from) (t ∷ to) = leb t (f + R) && within R from to

-- of the first sending
abbrev pub within_first : (R : ℕ) → Frame → Moment → Bool
within_first R f t = elim f.sendings [ never ↦ false | sent first last full ↦ within R first t ]

-- ── rule 1: a frame given out earlier, by a module that is still live, and no full sending of it before ──
abbrev pub rule1 : Bench → Book → Which → Bool
rule1 b k w = is_live (owner_of w k) b && (frame_of w k).given && not (was_full (frame_of w k))

-- ── rule 3 ──
-- no data after the confirmation; no confirmation before the data
abbrev pub in_turn : Book → Which → Bool
in_turn k the_payload = not (was_sent k.confirmation)
in_turn k the_confirmation = was_sent k.payload_frame
in_turn k (the_abort owner place) = true

-- a frame's reach is not over at t
abbrev pub in_reach : Settings → Book → Which → (t : Moment) → Bool
in_reach set k the_payload t = is_plain set || within set.rd k.payload_frame.since t
in_reach set k the_confirmation t = within_first set.dc k.payload_frame t
in_reach set k (the_abort owner place) t = within set.ra (frame_of (the_abort owner place) k).since t

abbrev pub rule3 : Bench → Stream → Book → Which → Bool
rule3 b s k w = in_turn k w && in_reach (settings_of s k b) k w (now b)

-- ── rule 2, second half: what is pending is sent at least once within its reach, unless its module dies ──
abbrev pub served_aborts : Settings → Bench → (t : Moment) → (owner : ℕ) → List Frame → Bool
served_aborts set b t owner frames =
    not (is_live owner b) || every (λ f. was_sent f || within set.ra f.since t) frames

-- the reach of a confirmation begins with the first sending of its data
abbrev pub served_own : Settings → Book → (t : Moment) → Bool
served_own set k t =
    (was_sent k.payload_frame || in_reach set k the_payload t)
    && (not (is_two_message set && was_sent k.payload_frame) || was_sent k.confirmation || in_reach set k the_confirmation t)

abbrev pub served_book : Bench → (t : Moment) → Stream → Book → Bool
served_book b t s k =
    (not (is_live k.sender b) || served_own (settings_of s k b) k t)
    && every (λ (x : Bool). x) (each (served_aborts (settings_of s k b) b t) 0 k.aborts)

abbrev pub served : Bench → (t : Moment) → Bool
served b t = every (λ (l : Ledger). every (served_book b t l.stream) l.books) b.ledgers

-- ── one event ──
-- Rule 4: a dead module does nothing more; that a tick reaches all live modules at once is how `step` is made. A tick that would
-- leave something unserved breaks rule 2.
unfoldable pub may : Bench → Event → Bool
may b (asks i s payload) = is_live i b
may b (gives i s code) = is_next i s code b
may b (sends s message w to) = rule1 b (book_of s message b) w && rule3 b s (book_of s message b) w
may b ticks = served b (now (step b ticks))
may b (dies i) = is_live i b

-- ── rule 2, first half: at most one frame of a message is an omission ──
abbrev pub one : Bool → ℕ
one true = 1
one false = 0

abbrev pub count : List Frame → ℕ
count [] = 0
count (f ∷ fs) = one (omission f) + count fs

abbrev pub count_all : List (List Frame) → ℕ
count_all [] = 0
count_all (row ∷ rows) = count row + count_all rows

abbrev pub omissions : Book → ℕ
omissions k = one (omission k.payload_frame) + one (omission k.confirmation) + count_all k.aborts

abbrev pub one_omission : Book → Bool
one_omission k = leb (omissions k) 1

-- ── histories ──
-- every event is as the rules ask; what rule 2 asks of a message when it is over is left out
abbrev pub keeps_so_far : Bench → List Event → Bool
keeps_so_far b [] = true
keeps_so_far b (e ∷ es) = may b e && keeps_so_far (step b e) es

-- and at its end no message has two omissions
abbrev pub keeps : Bench → List Event → Bool
keeps b h = keeps_so_far b h && every (λ (l : Ledger). every one_omission l.books) (run b h).ledgers
