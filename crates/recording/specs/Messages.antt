-- What is printed of a text that is not read.
use Rattle.std.specs.Prelude.{ℕ, List, ◌++◌, codes, decimal}
use Rattle.recording.specs.declared.TextError.{TextError}
use Rattle.recording.specs.declared.TextError.TheVariants.{Wrong, OutOfMemory}
use Rattle.recording.specs.declared.wrong.WrongLine.{WrongLine}
use Rattle.recording.specs.declared.wrong.Reason.{Reason}
use Rattle.recording.specs.declared.wrong.Reason.TheVariants.{UnknownLine, BadTicks, TwoTicks, BadWord, TwoWords, BadPulse, NoWord, BadWave, TwoWaves, NoTicks}

abbrev pub reason_text : Reason → List ℕ
reason_text UnknownLine = codes "expected 'ticks', 'word', 'pulse', 'wave' or a comment"
reason_text BadTicks = codes "expected 'ticks N' with a number of at most 2^48"
reason_text TwoTicks = codes "a second 'ticks' line"
reason_text BadWord = codes "expected 'word WWWW' with one to four hexadecimal digits"
reason_text TwoWords = codes "a second 'word' line"
reason_text BadPulse = codes "expected 'pulse OFFSET LENGTH' with two numbers"
reason_text NoWord = codes "a 'pulse' line with no 'word' line above it"
reason_text BadWave = codes "expected 'wave WWWW LOW HIGH' with a word and two numbers"
reason_text TwoWaves = codes "a second 'wave' line"
reason_text NoTicks = codes "the 'ticks' line is missing"

abbrev pub wrong_text : WrongLine → List ℕ
wrong_text w = codes "line " ++ (decimal w.line ++ (codes ": " ++ reason_text w.reason))

abbrev pub error_text : TextError → List ℕ
error_text (Wrong w) = wrong_text w
error_text OutOfMemory = codes "out of memory"
