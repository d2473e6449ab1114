-- "Numbers given back": document 01's table, each number once and by its condition. Assumes nothing.
use Rattle.std.specs.Prelude.{ℕ}

-- "0 is acceptance."
abbrev pub accepted : ℕ
accepted = 0

-- 1: "text too long (line 0)"
abbrev pub text_too_long : ℕ
text_too_long = 1

-- 2: "line too long, byte outside, or no LF"
abbrev pub broken_line : ℕ
broken_line = 2

-- 3: "wrong key, text ended early, lines left over"
abbrev pub wrong_key : ℕ
wrong_key = 3

-- 4: "a number outside code: its form, its range, or the 512"
abbrev pub wrong_number : ℕ
wrong_number = 4

-- 5: "code value outside the grammar, its numbers and variables included"
abbrev pub wrong_code : ℕ
wrong_code = 5

-- 6: "blocks unmatched or too deep, last line"
abbrev pub wrong_blocks : ℕ
wrong_blocks = 6

-- 10: "cells not 2,370"
abbrev pub cells_not_all : ℕ
cells_not_all = 10

-- 11: "not a configuration of this model"
abbrev pub no_configuration : ℕ
no_configuration = 11

-- 12: "kind, or object or label not in use"
abbrev pub not_in_use : ℕ
not_in_use = 12

-- 13: "answers length differs"
abbrev pub answers_differ : ℕ
answers_differ = 13

-- 14: "budget over 10,000"
abbrev pub budget_too_large : ℕ
budget_too_large = 14

-- 20: "arrive: stage not 1"
abbrev pub not_invoked : ℕ
not_invoked = 20

-- 21, 22: "bind: stage not 2; no such method"
abbrev pub not_queued : ℕ
not_queued = 21

abbrev pub no_such_method : ℕ
no_such_method = 22

-- 23, 24, 25: "start: stage not 3; object busy; not ready"
abbrev pub not_bound : ℕ
not_bound = 23

abbrev pub object_busy : ℕ
object_busy = 24

abbrev pub not_ready : ℕ
not_ready = 25

-- 26: "deliver: stage not 5"
abbrev pub not_answered : ℕ
not_answered = 26

-- 27, 28: "exec: object idle; line past the method's end"
abbrev pub object_idle : ℕ
object_idle = 27

abbrev pub past_the_end : ℕ
past_the_end = 28

-- 29: "a value out of range"
abbrev pub out_of_range : ℕ
out_of_range = 29

-- 30: "callee is no object"
abbrev pub callee_no_object : ℕ
callee_no_object = 30

-- 31, 32: "object rows full; call rows full"
abbrev pub object_rows_full : ℕ
object_rows_full = 31

abbrev pub call_rows_full : ℕ
call_rows_full = 32

-- 33: "reply not in"
abbrev pub reply_not_in : ℕ
reply_not_in = 33
