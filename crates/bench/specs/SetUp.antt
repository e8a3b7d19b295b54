-- Setting up a bench: what each module is set up with, first of all, and when that is as the bench rules ask.
use Rattle.std.specs.Prelude.{Bool, true, not, cond, ◌&&◌, ◌||◌, List, [], ◌∷◌, ◌++◌, map, length, eqb, leb}
use Rattle.wire.specs.declared.ids.Stream.{Stream}
use Rattle.wire.specs.declared.settings.Settings.{Settings}
use Rattle.wire.specs.declared.reply.Reply.{Reply}
use Rattle.wire.specs.Replies.{number_of}
use Rattle.wire.specs.Settings.{sends}
use Rattle.node.specs.Clock.{unbounded}
use Rattle.node.specs.Calls.{Call, set_up, after, Answer, answers}
use Rattle.bench.specs.Lists.{every, any}
use Rattle.bench.specs.Bench.{same_stream, Ledger, Module, Bench}

-- a stream and its settings at one module
pub record Entry : Type 0 where
  pub stream : Stream
  pub settings : Settings

-- what a module is set up with; what each module is
abbrev pub Part : Type 0
Part = List Entry

abbrev pub Plan : Type 0
Plan = List Part

abbrev pub set_ups : Part → List Call
set_ups part = map (λ (e : Entry). set_up e.stream e.settings) part

abbrev pub is_done : Reply → Bool
is_done r = eqb (number_of r) 0

-- every entry is accepted
abbrev pub accepted : Part → Bool
accepted part = every (λ (a : Answer). is_done a.reply) (answers unbounded (set_ups part))

-- class and numbers are equal
abbrev pub same_numbers : Settings → Settings → Bool
same_numbers x y =
    eqb x.class y.class && eqb x.rd y.rd && eqb x.dc y.dc && eqb x.ra y.ra && eqb x.dd y.dd

-- entries of two modules: on one stream they have equal class and numbers, and do not both send
abbrev pub agree : Entry → Entry → Bool
agree x y =
    not (same_stream x.stream y.stream)
    || (same_numbers x.settings y.settings && not (sends x.settings && sends y.settings))

abbrev pub parts_agree : Part → Part → Bool
parts_agree p q = every (λ x. every (agree x) q) p

abbrev pub all_agree : Plan → Bool
all_agree [] = true
all_agree (p ∷ ps) = every (parts_agree p) ps && all_agree ps

abbrev pub all_entries : Plan → List Entry
all_entries [] = []
all_entries (p ∷ ps) = p ++ all_entries ps

-- some module sends the stream
abbrev pub is_sent : Plan → Stream → Bool
is_sent plan s = any (λ (e : Entry). same_stream e.stream s && sends e.settings) (all_entries plan)

-- 2 to 8 modules, every entry accepted, each stream with one sender and equal settings
unfoldable pub proper : Plan → Bool
proper plan =
    leb 2 (length plan) && leb (length plan) 8 && every accepted plan && all_agree plan
    && every (λ (e : Entry). is_sent plan e.stream) (all_entries plan)

-- a stream's ledger is opened once
abbrev pub with_ledger : Stream → List Ledger → List Ledger
with_ledger s ls = cond (any (λ (l : Ledger). same_stream l.stream s) ls) ls (record { stream = s; books = [] } ∷ ls)

abbrev pub ledgers_for : List Entry → List Ledger
ledgers_for [] = []
ledgers_for (e ∷ es) = with_ledger e.stream (ledgers_for es)

abbrev pub module_for : Part → Module
module_for part = record { node = after unbounded (set_ups part); live = true; log = [] }

-- the bench when all is set up, and nothing has happened yet
unfoldable pub start : Plan → Bench
start plan = record { modules = map module_for plan; ledgers = ledgers_for (all_entries plan) }
