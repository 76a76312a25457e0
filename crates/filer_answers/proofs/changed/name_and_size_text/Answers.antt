use Rattle.std.proofs.Common.{◌≡◌, codes, rules}
use Rattle.serde_json.specs.Data.{string, number, unsigned, object, member, no_members}
use Rattle.serde_json.specs.View.{view}
use Rattle.serde_json.specs.declared.value.Value.{the_lemmas}
use Rattle.serde_json.proofs.OnLiterals.{serde_json_on_literals}
use Rattle.name_core.specs.RecordText.{name_of}
use Rattle.filer_answers.proofs.changed.name_and_size_text.Goals as goal

pub returns : goal.returns
unfolding serde_json_on_literals
returns c =
    let name : c.unwrap_or-name.result.now ≡ name_of c.args.path.now = search rules in
    let built : view c.in_ok-json.field-0 ≡ object (member (codes "name") (string c.unwrap_or-name.result.now) (member (codes "size") (number (unsigned c.args.size)) no_members)) =
    search (rules, the_lemmas) in
    search rules
