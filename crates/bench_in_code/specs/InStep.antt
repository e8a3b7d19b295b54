-- When the bench in code is in step with the bench of the rules, module by module; and when a frame that it keeps is a frame of a book.
use Rattle.std.specs.Prelude.{ℕ, ◌<◌, ◌≡◌, Bool, false, List, map, length, get_or}
use Rattle.node.specs.Calls.{roll}
use Rattle.node.specs.Reachable.{Kept}
use Rattle.bench_in_code.specs.Values.{Station}
use Rattle.bench_in_code.specs.declared.outbox.Frame as Kept-frame
use Rattle.bench_in_code.specs.declared.outbox.Frames.{Frames}
use Rattle.bench_in_code.specs.Values as coded
use Rattle.bench.specs.Bench.{Bench, Module, Frame, module_at}
use Rattle.bench.specs.Events.{To, named}
use Rattle.bench_in_code.specs.InCode.{payload_of, frame_in, place_count, places, module_in}

-- ── modules ──
-- the module in code has the node of the other with its counts rolled over, and is live where the other is; and the other's node is one
-- that calls made
pub record Mirrors (m : Module) (x : Station) : Type 0 where
  pub node : x.node ≡ roll m.node
  pub live : x.live ≡ m.live
  pub reached : Kept m.node

-- the bench in code has eight places, and at each of them what the other has there
pub record InStep (b : Bench) (k : coded.Bench) : Type 0 where
  pub eight : length k.modules ≡ place_count
  pub modules : (i : ℕ) → Mirrors (module_at i b) (module_in i k)

-- ── frames ──
-- the frame in code has this owner, and the identifier and the payload of the other
pub record SameFrame (f : Kept-frame.Frame) (who : ℕ) (g : Frame) : Type 0 where
  pub owner : f.owner ≡ who
  pub id : f.id ≡ g.id
  pub payload : payload_of f ≡ g.payload

-- the outbox keeps this frame of this owner under number n
pub record KeptAs (n : ℕ) (fs : Frames) (who : ℕ) (g : Frame) : Type 0 where
  pub there : n < fs.count
  pub same : SameFrame (frame_in n fs) who g

-- ── whom a sending is to ──
-- the eight places tell whom it names
abbrev pub Names : To → List Bool → Type 0
Names to here = (i : ℕ) → i < place_count → get_or here i false ≡ named to i

-- as these do, of whichever sending
abbrev pub places_of : To → List Bool
places_of to = map (named to) places
