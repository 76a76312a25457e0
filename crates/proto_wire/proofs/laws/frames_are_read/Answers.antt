use Rattle.proto_wire.proofs.Frames.{frame_reads}
use Rattle.proto_wire.proofs.laws.frames_are_read.Goals as goal

pub returns : goal.returns
returns c = frame_reads
