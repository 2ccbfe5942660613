-- What a call answers, as the definitions have it.
use Rattle.rt_plain.specs.kernel.Outcome.{Answer as PlainAnswer, Answers, Waits}
use Rattle.rt_kernel.specs.declared.answer.Answer.{Answer}

abbrev pub plain_answer : Answer → PlainAnswer
plain_answer (Answer.Code code) = Answers code
plain_answer Answer.Waits = Waits
