use Rattle.std.proofs.Common.{◌⊎◌, inl, inr}
use Rattle.weed_base.specs.Told.{Rose}
use Rattle.weed_command.specs.Run.{IsEarly}
use Rattle.weed_command.specs.Tells.{Ends}
use Rattle.weed_command.proofs.RunLemmas.{completes}
use Rattle.weed_command.proofs.WrittenLemmas.{rises}
use Rattle.weed_command.proofs.run.weed.Goals as goal

pub returns-in-Ok-FilerOnce-clause-complete : goal.returns-in-Ok-FilerOnce-clause-complete
returns-in-Ok-FilerOnce-clause-complete g c dir first good starts no_disk no_read no_write few =
    let ran = c.filer_once-exit.ensures in
    let end = c.filer_once-exit.result in
    let ended = ran.answers first starts in
    let how = elim ended.3 as (λ _. Ends (Rose (g.H.Host.send_faults c.args.world.host) (g.H.Host.send_faults c.filer_once-exit.new.world.host)) end first ended.0 ended.1 ⊎ IsEarly end) [
      | inl session ↦ inl session.0
      | inr early ↦ inr early.0
    ] in
    completes _ (g.H.Disk.files c.args.world.host) _ _ _ _ end first starts.stands.log_is ended.0 ended.1 how ran.good_words ran.damaged (λ fault. rises _ _ ran.disk.later (ran.disk.failed fault)) (λ fault. rises _ _ ran.read.later (ran.read.failed fault)) (λ fault. rises _ _ ran.write.later (ran.write.failed fault)) no_disk no_read no_write few
