use Rattle.std.proofs.lemmas.List.{take_rest}
use Rattle.weed_command.proofs.InboxLemmas.{head_none, head_found}
use Rattle.weed_command.proofs.inbox.head_length.Goals as goal

pub returns-in_err-at-clause-none : goal.returns-in_err-at-clause-none
returns-in_err-at-clause-none c =
    let h = simp take_rest at c.in_err-at.ensures in
    rw c.from_residual.ensures (head_none c.args.bytes.now c.args.searched c.requires.within c.requires.searched h)

pub returns-clause-found : goal.returns-clause-found
returns-clause-found c =
    let h = simp take_rest at c.in_ok-at.ensures in
    head_found c.args.bytes.now c.args.searched c.in_ok-at.at _ c.requires.searched h.0 h.1
