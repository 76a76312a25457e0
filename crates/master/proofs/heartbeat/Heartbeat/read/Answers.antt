use Rattle.std.proofs.Common.{ap, sym, ◌∙◌, subst}
use Rattle.master.specs.HeartbeatReading.{fault_in, IsHeartbeat}
use Rattle.master.specs.HeartbeatText.{HeartbeatText}
use Rattle.master.proofs.Collected.{made_of}
use Rattle.master.proofs.heartbeat.Heartbeat.read.Goals as goal

pub returns : goal.returns
returns c =
    let whole = c.in_ok-fields.ensures in
    let none = sym (ap fault_in whole.1.1) ∙ whole.0 in (
      whole.0,
      (
        whole.1.0,
        whole.1.1,
        subst (λ reports. IsHeartbeat whole.1.0 (record { node = c.in_ok-node.node; volumes = reports; greatest = c.fields.inside.greatest })) (sym c.of.ensures)
            (made_of whole.1.0 c.in_ok-fields.fields c.in_ok-node.node c.in_ok-volumes.volumes.items c.fields.inside.greatest none whole.1.2 c.in_ok-node.ensures (c.in_ok-volumes.ensures whole.1.0 whole.1.1) (ap (λ (b : HeartbeatText). b.greatest) c.fields.view_is)),
      ),
    )
