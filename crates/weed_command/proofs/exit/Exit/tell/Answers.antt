use Rattle.weed_command.proofs.exit.Exit.tell.Goals as goal

pub returns-in-Damaged-clause-line : goal.returns-in-Damaged-clause-line
returns-in-Damaged-clause-line g c =
    let name = c.as_slice.ensures.text in
    let digits = c.format-in-Damaged.ensures.text in
    let told = rw (name, c.as_bytes-in-Damaged.ensures.value, digits) at c.write_pieces-in-Damaged.ensures.bytes in
    rw c.in-Damaged.is told

pub returns-in-TurnsSpent-clause-line : goal.returns-in-TurnsSpent-clause-line
returns-in-TurnsSpent-clause-line g c = rw c.in-TurnsSpent.is c.write_pieces-in-TurnsSpent.ensures.bytes
