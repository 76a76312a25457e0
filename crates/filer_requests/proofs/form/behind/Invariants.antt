use Rattle.std.proofs.Common.{◌≡◌, drop}
use Rattle.filer_requests.specs.Form.{behind}
use Rattle.filer_requests.proofs.form.behind.Given as goal

abbrev pub invariant-loop-place : goal.invariant-loop-place
invariant-loop-place l = behind l.word (drop l.place l.text) ≡ behind l.word l.text
