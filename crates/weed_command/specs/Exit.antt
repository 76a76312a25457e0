-- How a run ended: its status, and the line that tells of it.
use Rattle.std.specs.Prelude.{ℕ, List, [], ◌++◌, codes, decimal}
use Rattle.weed_command.specs.declared.exit.Exit.{Exit}
use Rattle.weed_command.specs.declared.exit.Exit.TheVariants.{Done, BadWords, DiskFault, Damaged, ReadFault, WriteFault, Memory, TurnsSpent}

-- The status of the process.
abbrev pub status_of : Exit → ℕ
status_of Done = 0
status_of (BadWords place) = 1
status_of DiskFault = 2
status_of (Damaged file at) = 3
status_of ReadFault = 5
status_of WriteFault = 6
status_of Memory = 7
status_of TurnsSpent = 15

-- The line on standard error, nothing where all is done.
abbrev pub line_of : Exit → List ℕ
line_of Done = []
line_of (BadWords place) = codes "weed: bad word " ++ (decimal place ++ codes "\n")
line_of DiskFault = codes "weed: disk fault\n"
line_of (Damaged file at) = codes "weed: damaged " ++ (file ++ (codes " at " ++ (decimal at ++ codes "\n")))
line_of ReadFault = codes "weed: read fault\n"
line_of WriteFault = codes "weed: write fault\n"
line_of Memory = codes "weed: out of memory\n"
line_of TurnsSpent = codes "weed: turns spent\n"
