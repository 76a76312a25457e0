use Rattle.weed_base.proofs.mem.table.FileTable.fill.Goals as goal

pub returns-in-Written : goal.returns-in-Written
returns-in-Written c = rw (c.in-Written.is, ← c.as_slice.ensures) c.write_byte.ensures

pub returns-in-Torn : goal.returns-in-Torn
returns-in-Torn c = rw c.in-Torn.is c.write_byte-in-Torn.ensures
