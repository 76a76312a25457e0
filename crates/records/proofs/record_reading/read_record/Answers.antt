use Rattle.records.proofs.ReadRecords.{read_can_be_written}
use Rattle.records.proofs.record_reading.read_record.Goals as goal

pub returns-clause-valid : goal.returns-clause-valid
returns-clause-valid c = read_can_be_written c.args.text.now c.read_fields.result c.read_fields.ensures
