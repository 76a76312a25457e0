use Rattle.proto_wire.proofs.Answered.{answers_end, answers_found, answers_only, answers_refused, answers_failed, answers_shorter, answers_first}
use Rattle.proto_wire.proofs.reader.Reader.next.Goals as goal

pub returns-clause-end : goal.returns-clause-end
returns-clause-end c = answers_end c.args.self.now c.step.result c.step.ensures.answer

pub returns-clause-found : goal.returns-clause-found
returns-clause-found c = answers_found c.args.self.now c.step.new.self c.step.result c.step.ensures.bytes c.step.ensures.answer c.step.ensures.left

pub returns-clause-only : goal.returns-clause-only
returns-clause-only c = answers_only c.args.self.now c.step.new.self c.step.result c.step.ensures.answer c.step.ensures.left

pub returns-clause-refused : goal.returns-clause-refused
returns-clause-refused c = answers_refused c.args.self.now c.step.result c.step.ensures.bytes c.step.ensures.answer

pub returns-clause-failed : goal.returns-clause-failed
returns-clause-failed c = answers_failed c.args.self.now c.step.new.self c.step.result c.step.ensures.answer c.step.ensures.left

pub returns-clause-first : goal.returns-clause-first
returns-clause-first c = answers_first c.args.self.now c.step.new.self c.step.result c.step.ensures.answer c.step.ensures.left

pub returns-clause-shorter : goal.returns-clause-shorter
returns-clause-shorter c = answers_shorter c.args.self.now c.step.new.self c.step.result c.step.ensures.answer c.step.ensures.left
