-- The values of the bench in code: its modules, and what an event answers and leaves.
use Rattle.std.specs.Prelude.{ℕ, Bool, List}
use Rattle.wire.specs.declared.reply.Reply.{Reply}
use Rattle.node.specs.declared.Node.{Node}
use Rattle.node.specs.Told.{Report}
use Rattle.bench_in_code.specs.declared.outbox.Frame as Kept-frame
use Rattle.bench_in_code.specs.declared.outbox.Frames.{Frames}

-- a module: its node, and whether it is live
pub record Station : Type 0 where
  pub node : Node
  pub live : Bool

-- what a module said: its reply, what it wrote into an output of zeros, and what it told. Where heard is false, the event did not reach it.
pub record Said : Type 0 where
  pub heard : Bool
  pub reply : Reply
  pub len : ℕ
  pub bytes : List ℕ
  pub report : Report

-- a module after an event, and what it said
pub record Turn : Type 0 where
  pub after : Station
  pub said : Said

pub record Bench : Type 0 where
  pub modules : List Station

-- a set up or a request; where there is false nobody answered
pub record Asked : Type 0 where
  pub bench : Bench
  pub there : Bool
  pub reply : Reply

-- an event that may reach every module
pub record Told : Type 0 where
  pub bench : Bench
  pub said : List Said

-- a sending; where sent is false the frame's owner was not live
pub record Sent : Type 0 where
  pub bench : Bench
  pub sent : Bool
  pub said : List Said

-- what became of a giving out: the module is not live; no frame is pending; no more frames are kept, so none is given out; the frame is given
-- out, and kept as the last one
pub data Giving : Type 0 where
  Dead : Giving
  Nothing : Giving
  Full : Giving
  Out : Giving

-- giving out a module's next frame
pub record Gave : Type 0 where
  pub bench : Bench
  pub frames : Frames
  pub giving : Giving
  pub frame : Kept-frame.Frame
