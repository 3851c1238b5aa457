-- What an entry does to the streams of a world of one link.
-- A reader learns here with which events a CLC message may be posted, and how bytes of an application come into a stream and leave it.
use Rattle.std.specs.Prelude.{ℕ, ◌++◌, Bool, true, false, List, take, drop}
use Rattle.pipe_model.specs.declared.event.Event.{Event}
use Rattle.pipe_model.specs.declared.event.Event.TheVariants.{Open, Clc}
use Rattle.tcp_pipe.specs.Streams.{free}
use Rattle.world_core.specs.declared.host.Outflow.{Outflow}

-- the events with which a CLC message may be posted
abbrev pub may_post_clc : Event → Bool
may_post_clc (Open s) = true
may_post_clc (Clc s dir) = true
may_post_clc _ = false

-- a stream takes in as many bytes as it has room for
abbrev pub takes_in : List ℕ → Outflow → Outflow
takes_in bytes f = record f { bytes = record f.bytes { held = f.bytes.held ++ take (free f.bytes) bytes } }

-- bytes are taken out of a stream
abbrev pub gives_out : ℕ → Outflow → Outflow
gives_out n f = record f { bytes = record f.bytes { held = drop n f.bytes.held } }
