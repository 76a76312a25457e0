use Rattle.real_forms.specs.Folder.{SettlesFiles, IsSettledWhole}
use Rattle.real_forms.proofs.FolderLemmas.{both_some}
use Rattle.real_forms.proofs.dir_disk.DirDiskDisk.attach.Goals as goal

pub returns-in-Ok-clause-settled : goal.returns-in-Ok-clause-settled
returns-in-Ok-clause-settled g c =
    both_some (λ before after. SettlesFiles g.R.System.file_answered before after × IsSettledWhole after) c.args.self.now.folder c.open.new.self.folder c.in-Ok.ensures.left.0
