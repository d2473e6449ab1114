-- Vocabulary of the code: the number and the words of each refusal, and the number of an answer. Assumes nothing.
use Rattle.std.specs.Prelude.{ℕ, List, [], ◌∷◌, get_or, Option, None, Some, Result, Ok, Err, codes}
use Rattle.whole.specs.declared.refusals.Refusal.{Refusal}
use Rattle.whole.specs.Refusals.{accepted, text_too_long, broken_line, wrong_key, wrong_number, wrong_code, wrong_blocks, cells_not_all, no_configuration, not_in_use, answers_differ, budget_too_large, not_invoked, not_queued, no_such_method, not_bound, object_busy, not_ready, not_answered, object_idle, past_the_end, out_of_range, callee_no_object, object_rows_full, call_rows_full, reply_not_in}

-- "Numbers given back"
unfoldable pub number_of : Refusal → ℕ
number_of Refusal.TextTooLong = text_too_long
number_of Refusal.BrokenLine = broken_line
number_of Refusal.WrongKey = wrong_key
number_of Refusal.WrongNumber = wrong_number
number_of Refusal.WrongCode = wrong_code
number_of Refusal.WrongBlocks = wrong_blocks
number_of Refusal.CellsNotAll = cells_not_all
number_of Refusal.NoConfiguration = no_configuration
number_of Refusal.NotInUse = not_in_use
number_of Refusal.AnswersDiffer = answers_differ
number_of Refusal.BudgetTooLarge = budget_too_large
number_of Refusal.NotInvoked = not_invoked
number_of Refusal.NotQueued = not_queued
number_of Refusal.NoSuchMethod = no_such_method
number_of Refusal.NotBound = not_bound
number_of Refusal.ObjectBusy = object_busy
number_of Refusal.NotReady = not_ready
number_of Refusal.NotAnswered = not_answered
number_of Refusal.ObjectIdle = object_idle
number_of Refusal.PastTheEnd = past_the_end
number_of Refusal.OutOfRange = out_of_range
number_of Refusal.CalleeNoObject = callee_no_object
number_of Refusal.ObjectRowsFull = object_rows_full
number_of Refusal.CallRowsFull = call_rows_full
number_of Refusal.ReplyNotIn = reply_not_in

-- the condition beside each number, as a refusal is printed
abbrev pub words_of : Refusal → List ℕ
words_of Refusal.TextTooLong = codes "text too long (line 0)"
words_of Refusal.BrokenLine = codes "line too long, byte outside, or no LF"
words_of Refusal.WrongKey = codes "wrong key, text ended early, lines left over"
words_of Refusal.WrongNumber = codes "a number outside code: its form, its range, or the 512"
words_of Refusal.WrongCode = codes "code value outside the grammar, its numbers and variables included"
words_of Refusal.WrongBlocks = codes "blocks unmatched or too deep, last line"
words_of Refusal.CellsNotAll = codes "cells not 2,370"
words_of Refusal.NoConfiguration = codes "not a configuration of this model"
words_of Refusal.NotInUse = codes "kind, or object or label not in use"
words_of Refusal.AnswersDiffer = codes "answers length differs"
words_of Refusal.BudgetTooLarge = codes "budget over 10,000"
words_of Refusal.NotInvoked = codes "arrive: stage not 1"
words_of Refusal.NotQueued = codes "bind: stage not 2"
words_of Refusal.NoSuchMethod = codes "no such method"
words_of Refusal.NotBound = codes "start: stage not 3"
words_of Refusal.ObjectBusy = codes "object busy"
words_of Refusal.NotReady = codes "not ready"
words_of Refusal.NotAnswered = codes "deliver: stage not 5"
words_of Refusal.ObjectIdle = codes "exec: object idle"
words_of Refusal.PastTheEnd = codes "line past the method's end"
words_of Refusal.OutOfRange = codes "a value out of range"
words_of Refusal.CalleeNoObject = codes "callee is no object"
words_of Refusal.ObjectRowsFull = codes "object rows full"
words_of Refusal.CallRowsFull = codes "call rows full"
words_of Refusal.ReplyNotIn = codes "reply not in"

-- the refusal of each number, from 0 on; between the groups, none
abbrev pub refusals : List (Option Refusal)
refusals =
    None ∷ Some Refusal.TextTooLong ∷ Some Refusal.BrokenLine ∷ Some Refusal.WrongKey ∷ Some Refusal.WrongNumber ∷ Some Refusal.WrongCode ∷ Some Refusal.WrongBlocks ∷
    None ∷ None ∷ None ∷ Some Refusal.CellsNotAll ∷ Some Refusal.NoConfiguration ∷ Some Refusal.NotInUse ∷ Some Refusal.AnswersDiffer ∷ Some Refusal.BudgetTooLarge ∷
    None ∷ None ∷ None ∷ None ∷ None ∷
    Some Refusal.NotInvoked ∷ Some Refusal.NotQueued ∷ Some Refusal.NoSuchMethod ∷ Some Refusal.NotBound ∷ Some Refusal.ObjectBusy ∷ Some Refusal.NotReady ∷
    Some Refusal.NotAnswered ∷ Some Refusal.ObjectIdle ∷ Some Refusal.PastTheEnd ∷ Some Refusal.OutOfRange ∷ Some Refusal.CalleeNoObject ∷ Some Refusal.ObjectRowsFull ∷ Some Refusal.CallRowsFull ∷ Some Refusal.ReplyNotIn ∷ []

-- the refusal that a number tells
unfoldable pub refusal_of : ℕ → Option Refusal
refusal_of n = get_or refusals n None

-- what the code answers to a choice, and the number of it: "0 is acceptance."
abbrev pub Answer : Type 0
Answer = Result (Unit {0}) Refusal

unfoldable pub number_given : Answer → ℕ
number_given (Ok u) = accepted
number_given (Err r) = number_of r
