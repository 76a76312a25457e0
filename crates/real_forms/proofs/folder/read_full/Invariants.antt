use Rattle.std.proofs.Common.{◌≡◌, length, take, drop, ◌-◌, ◌≤◌}
use Rattle.std.specs.Prelude.{IfSome}
use Rattle.real_forms.proofs.folder.read_full.Given as goal

-- what was read so far stands in front of the room
abbrev pub invariant-loop-count : goal.invariant-loop-count
invariant-loop-count g l = record {
  within : l.count ≤ length l.room;
  read : IfSome (g.F.SystemFile.bytes l.file) (λ told. (l.count ≤ length told - l.at) × (take l.count l.room ≡ take l.count (drop l.at told)));
}

abbrev pub decreases-loop-count : goal.decreases-loop-count
decreases-loop-count g l = length l.initial.room - l.count
