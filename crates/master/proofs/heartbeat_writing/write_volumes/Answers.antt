use Rattle.std.proofs.Common.{◌++◌, ap, ◌∙◌}
use Rattle.proto_wire.specs.Text.{message_field}
use Rattle.master.specs.HeartbeatWriting.{volume_text}
use Rattle.master.proofs.WrittenVolumes.{volume_more}
use Rattle.master.proofs.heartbeat_writing.write_volumes.Goals as goal

pub loop-report-preserved : goal.loop-report-preserved
loop-report-preserved c =
    c.in_ok-message.ensures.ok
    ∙ ap (λ volume. c.loop-report.into ++ message_field 7 volume) (c.as_slice.ensures ∙ c.in_ok-set_volume.ensures)
    ∙ ap (λ text. text ++ message_field 7 (volume_text c.report-item.result)) c.loop-report.invariant
    ∙ volume_more _ c.args.reports.now c.loop-report.report-index c.report-item.result c.loop-report-test.true c.report-item.is
