-- `image_kinds::answer_at` meets its contract. Assumes nothing.
use Rattle.image_kinds.proofs.Answers.{answer-is}
use Rattle.image_kinds.proofs.answer_at.Goals as goal

pub returns : goal.returns
returns c = answer-is c.args.image.now c.args.at c.kind_answer-s.ensures c.kind_answer-t.ensures c.and.ensures
