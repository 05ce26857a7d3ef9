-- The line of a call, to the byte, and the buffer it goes into. Assumes nothing.
use Rattle.std.specs.Prelude.{ℕ, cond, List, [], ◌++◌, length, drop, Ok, Err, codes, decimal, Result, nat_lt}
use Rattle.calls.specs.Calls.{party_text}
use Rattle.calls.specs.declared.layer.Layer.{Layer}
use Rattle.calls.specs.declared.layer.Layer.TheVariants.{Line}
use Rattle.calls.specs.declared.party.Party.{Party}
use Rattle.jobs.specs.Form.{Form}
use Rattle.model.specs.Naming.{number, access_word, answer_word}
use Rattle.model.specs.declared.reply.Answer.{Answer}
use Rattle.model.specs.declared.reply.Answer.TheVariants.{Going, Pushed, Work, Stolen, Retired, Taken, AllGone, NoShare, Changed, Finished, Refused}
use Rattle.model.specs.declared.reply.Reply.{Reply}
use Rattle.line.specs.declared.fault.LineFault.{LineFault}
use Rattle.line.specs.declared.fault.LineFault.TheVariants.{ShortBuffer}

abbrev pub number_of : LineFault → ℕ
number_of ShortBuffer = 21

abbrev pub layer_of : LineFault → Layer
layer_of fault = Line

module _ {J O : Type 0} (job : Form J) (outcome : Form O) where
  -- what comes after an answer's word
  abbrev pub detail : Answer J O → List ℕ
  detail Going = []
  detail Pushed = []
  detail (Work j) = codes " " ++ job.text j
  detail Stolen = []
  detail (Retired o) = codes " " ++ outcome.text o
  detail (Taken j) = codes " " ++ job.text j
  detail AllGone = []
  detail NoShare = []
  detail Changed = []
  detail Finished = []
  detail (Refused refusal) = codes " " ++ decimal (number refusal)

  -- as `9 H1 swap 0 TAKEN labels 100 5`
  abbrev pub line_of : ℕ → Party → Reply J O → List ℕ
  line_of call party reply =
      decimal call ++ (codes " " ++ (party_text party ++ (codes " " ++ (access_word reply.access ++ (codes " " ++ (decimal reply.landed ++ (codes " " ++ (answer_word reply.answer ++ detail reply.answer))))))))

-- a buffer shorter than 80 bytes is refused; any other is told how many bytes of it the line takes
abbrev pub written : List ℕ → List ℕ → Result ℕ LineFault
written line buffer = cond (nat_lt (length buffer) 80) (Err ShortBuffer) (Ok (length line))

-- the line stands at the front, and the rest is as it was; a refused buffer is left alone
abbrev pub buffer_after : List ℕ → List ℕ → List ℕ
buffer_after line buffer = cond (nat_lt (length buffer) 80) buffer (line ++ drop (length line) buffer)
