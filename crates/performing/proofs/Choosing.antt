-- What a rule gives by its tests: a stage, a body, a kind, and the callee of a label in use. Assumes nothing.
use Rattle.std.specs.Prelude.{Option, None, Some, Result, Ok, Err, ok_or, IsErrAnd}
use Prim.Native.Nat.{ℕ, ◌^◌, ◌≤◌, ◌<◌}
use mathlib.Core.Bool.{Bool, true, false}
use mathlib.Core.Path.{◌≡◌, refl, sym, ap, subst, ◌∙◌}
use native.Mathlib.Omega.{arith}
use lib.IntN.{ℤ, pos}
use lib.Signed.{mag}
use mir.Syntax.{w32}
use mir.Val.{SFits, to_z, of_z}
use mir.ValLaws.{to_z_pos, to_z-of_z}
use Rattle.whole.specs.Whole.{Worked, natural, between, is_true, eq_z}
use Rattle.whole.specs.Refusals.{not_in_use, no_such_method, not_ready}
use Rattle.whole.specs.declared.refusals.Refusal.{Refusal}
use Rattle.whole.specs.declared.refusals.Refusal.TheVariants.{NotInUse}
use Rattle.whole.proofs.Ranges.{handed}
use Rattle.whole.specs.Vocabulary.Refusing.{Answer, number_of}
use Rattle.whole.proofs.Tested.{numbered, of_natural, nat_of}
use Rattle.layout.specs.Layout.{Cells, read, objects, object_rows, of_object, of_call, callee, running_label}
use Rattle.layout.specs.Stages.{queued, bound, in_stage, staged, objects_in_use, rows_in_use, object_of, label_of}
use Rattle.layout.specs.declared.Label.{Label}
use Rattle.layout.specs.declared.ObjectNumber.{ObjectNumber}
use Rattle.layout.specs.Vocabulary.Found.{as_label, as_object}
use Rattle.layout.proofs.Numbers as Numbers
use Rattle.layout.proofs.Numbers.{count_cell}
use Rattle.code.specs.declared.Arguments.{Arguments}
use Rattle.code.specs.declared.Statement as Declared
use Rattle.code.specs.Statements.{Statement, skip, set, new, call, get, await, if, else, fi, while, od, return}
use Rattle.code.specs.Vocabulary.Answers.{as_statement}
use Rattle.model.specs.Model.{Model}
use Rattle.model.specs.Vocabulary.Known.{model_of}
use Rattle.model.specs.Vocabulary.Table.{Table}
use Rattle.cells.specs.Configuration.{is_configuration}
use Rattle.cells.specs.Standing.{Standing, body_of, standing_of}
use Rattle.cells.proofs.Configured.{configured}
use Rattle.cells.proofs.FromTest.{up_to_number}
use Rattle.rules.specs.declared.Choice.{Choice}
use Rattle.rules.specs.Exec as Exec
use Rattle.rules.specs.Exec.{here, worked_out}
use Rattle.rules.specs.declared.Kind.{Kind}
use Rattle.rules.specs.Kinds as Kinds
use Rattle.rules.specs.Kinds.{kind_of}
use Rattle.rules.specs.Messages as Messages
use Rattle.rules.specs.Messages.{ready_at, ready, start_in, start, started}
use Rattle.rules.specs.Next.{Next, refused, moved, must, working}
use Rattle.rules.specs.Step.{ruled, next}
use Rattle.rules.proofs.OneChoice.{number_of_kind}
use Rattle.lookup.specs.declared.Body.{Body}
use Rattle.lookup.specs.declared.Standing as Placed
use Rattle.lookup.specs.Vocabulary.Programs as Kept
use Rattle.lookup.specs.Vocabulary.Found.{BodyIs, BodySaid, StandingIs, StandingSaid}
use Rattle.lookup.proofs.Saying.{object_is}
use Rattle.forms.specs.Vocabulary.Done.{Done}
use Rattle.forms.proofs.Written.{not_performed, there, not_found}
use Rattle.forms.proofs.MakingLaws.{same_done, object_some, object_none}
use Rattle.performing.specs.Vocabulary.Parts.{InUse, ready_said}

-- a test that passed, and one that did not
module _ (c : Cells) (b : Bool) (k : Next) where
  pub must_passed : (n : ℕ) (d : Cells) (r : Answer) → b ≡ true → Done c k r d → Done c (must b n k) r d
  unfolding must
  must_passed n d r e h = subst (λ t. Done c (must t n k) r d) (sym e) h

  pub must_failed : (n : Refusal) → b ≡ false → Done c (must b (number_of n) k) (Err n) c
  unfolding must
  must_failed n e = subst (λ t. Done c (must t (number_of n) k) (Err n) c) (sym e) (not_performed c n)

-- whether a call is ready at a statement that was read with its values
pub ready_said_lem : (w : Statement Worked Worked) → ready_said (as_statement w) ≡ ready_at w
unfolding ready_said as_statement ready_at
ready_said_lem skip = refl
ready_said_lem (set x w) = refl
ready_said_lem (new x k ws) = refl
ready_said_lem (call x w j ws) = refl
ready_said_lem (get x y) = refl
ready_said_lem (await g) = refl
ready_said_lem (if w) = refl
ready_said_lem else = refl
ready_said_lem fi = refl
ready_said_lem (while w) = refl
ready_said_lem od = refl
ready_said_lem (return w) = refl

-- what was found of where a call stands: nowhere, where it is ready, or at a line
module _ (t : Table) (m : Model) (c : Cells) (l : ℕ) (r : Option Placed.Standing) (said : StandingSaid t m c l r) where
  pub stands_nowhere : r ≡ None → standing_of m c l ≡ None
  unfolding StandingSaid
  stands_nowhere e = subst (StandingSaid t m c l) e said

  pub ready_nowhere : (o : ℕ) → r ≡ None → ready m c o l ≡ Some (pos 1)
  unfolding ready
  ready_nowhere o e = rw (stands_nowhere e, ready)

  pub stands_there : (d : Placed.Standing) → r ≡ Some d → StandingIs t m c l d
  unfolding StandingSaid
  stands_there d e = subst (StandingSaid t m c l) e said

  -- at a line of a program, by the table that it gave
  pub stands_kept : (k p : Kept.Kept) → k ≡ p → t ≡ p.table → m ≡ model_of p.text → (d : Placed.Standing) → r ≡ Some d → StandingIs k.table (model_of k.text) c l d
  stands_kept k p view table model d e = rw (view, ← table, ← model) (stands_there d e)

-- and there it is ready by its statement
pub ready_there : (m : Model) (c : Cells) (o l : ℕ) (st : Standing) → standing_of m c l ≡ Some st → ready m c o l ≡ ready_at (worked_out (here c o l) st.statement)
unfolding ready
ready_there m c o l st e = rw (e, ready)

-- a statement that was read is no other one, and was not refused
statement_in : Declared.Statement → Result (Declared.Statement × Arguments) ℕ → Declared.Statement
statement_in d (Ok s) = s.0
statement_in d (Err n) = d

module _ (r : Result (Declared.Statement × Arguments) ℕ) (w : Statement Worked Worked) (es : Arguments) (is : r ≡ Ok (as_statement w, es)) where
  pub ready_got : (s : Declared.Statement) (a : Arguments) → r ≡ Ok (s, a) → ready_said s ≡ ready_at w
  ready_got s a e = let f : s ≡ as_statement w = unfold statement_in in ap (statement_in s) (sym e ∙ is) in ap ready_said f ∙ ready_said_lem w

  pub not_bad : (n : ℕ) → r ≡ Err n → ⊥
  not_bad n e = let f = sym e ∙ is in let y : ◌≡◌ {A = ℕ} 0 1 = cc in omega arith

-- a call that is bound, by the body that was found
module _ (t : Table) (m : Model) (c : Cells) (l : ℕ) (is : in_stage c l queued ≡ true) (r : Option Body) (said : BodySaid t m (body_of m c l) r) where
  pub bound_none : r ≡ None → Messages.bind m c l ≡ refused no_such_method
  unfolding Messages.bind must BodySaid
  bound_none e = let f : body_of m c l ≡ None = subst (BodySaid t m (body_of m c l)) e said in rw (is, f, Messages.bind, must)

  pub bound_some : (d : Body) → r ≡ Some d → Messages.bind m c l ≡ moved (staged c l bound)
  unfolding Messages.bind must BodySaid
  bound_some d e = let f : BodyIs t m (body_of m c l) d = subst (BodySaid t m (body_of m c l)) e said in rw (is, f.is, Messages.bind, must)

-- a start by the number of its callee
pub started_in : (m : Model) (c : Cells) (l o : ℕ) → natural (of_call c l callee) ≡ Some o → start m c l ≡ start_in m c o l
unfolding start
started_in m c l o e = ap (λ n. start_in m c n l) (nat_of (of_natural _ _ e))

-- a start of a bound call: a busy callee refuses, and in an idle one the guard decides
module _ (m : Model) (c : Cells) (l o : ℕ) (is : in_stage c l bound ≡ true) (callee_is : natural (of_call c l callee) ≡ Some o) (z : ℤ) (told : z ≡ of_object c o running_label) where
  pub start_busy : eq_z z (pos 0) ≡ false → Done c (start m c l) (Err Refusal.ObjectBusy) c
  unfolding start_in number_of
  start_busy busy =
      same_done c _ _ _ c (started_in m c l o callee_is)
      (must_passed c _ _ _ c _ is (must_failed c _ _ Refusal.ObjectBusy (ap (λ y. eq_z y (pos 0)) (sym told) ∙ busy)))

  pub start_idle : eq_z z (pos 0) ≡ true → (r : Answer) (d : Cells)
      → Done c (working (ready m c o l) (λ y. must (is_true y) not_ready (moved (started c o l)))) r d → Done c (start m c l) r d
  unfolding start_in
  start_idle idle r d h =
      same_done c _ _ r d (started_in m c l o callee_is) (must_passed c _ _ _ d r is (must_passed c _ _ _ d r (ap (λ y. eq_z y (pos 0)) (sym told) ∙ idle) h))

-- the callee that was found
pub callee_found : (c : Cells) (l : ℕ) (z : ℤ) → mag z < 2147483648 → z ≡ of_call c l callee → between (pos 1) (read c objects) (of_call c l callee) ≡ true
    → (found : Option ObjectNumber) → found ≡ as_object (object_of c (to_z w32 (of_z w32 z)))
    → (k : Refusal) (o : ObjectNumber) → Ok o ≡ ok_or found k → natural (of_call c l callee) ≡ Some o.0
callee_found c l z small is within found told k o e =
    object_is _ _ within o (sym (told ∙ ap (λ z. as_object (object_of c z)) (handed z _ small is)) ∙ there found k o e)

-- a label in use has a callee in use, and there are few of both
module _ (m : Model) (c : Cells) (e : is_configuration m c ≡ true) where
  pub few_objects : objects_in_use c ≤ object_rows
  unfolding objects_in_use
  few_objects = (configured m c e).objects.most

  module _ (l : ℕ) (h : InUse c l) where
    pub callee_in_use : between (pos 1) (read c objects) (of_call c l callee) ≡ true
    unfolding objects_in_use
    callee_in_use =
        sym (count_cell (read c objects) (of_call c l callee))
        ∙ numbered 1 (objects_in_use c) (of_call c l callee) ((configured m c e).call l h.0 h.1).callee

    pub label_few : l < 2 ^ 31
    unfolding rows_in_use
    label_few = omega (arith, h.1, (configured m c e).calls.most)

-- a label that was found is in use
pub label_within : (c : Cells) (z : ℤ) (l : ℕ) → label_of c z ≡ Some l → InUse c l
unfolding label_of
label_within c z l e = let n = up_to_number (rows_in_use c) z l e in (omega (arith, n.0.least, n.1), omega (arith, n.0.most, n.1))

-- a signed number by its bits
pub kind_is : (z : ℤ) (n : ℕ) → SFits w32 z → n < 2 ^ 31 → of_z w32 z ≡ n → z ≡ pos n
kind_is z n h k e = sym (to_z-of_z w32 z h) ∙ ap (to_z w32) e ∙ to_z_pos w32 n (omega arith)

-- a choice by its kind and what its number names
module _ (m : Model) (c : Cells) (choice : Choice) where
  pub no_kind : kind_of choice.kind ≡ None → next m c choice ≡ refused not_in_use
  unfolding next
  no_kind e = rw (e, next)

  pub exec_none : kind_of choice.kind ≡ Some Kind.Exec → object_of c choice.number ≡ None → next m c choice ≡ refused not_in_use
  unfolding next object_of Kinds.in_use
  exec_none e f = rw (e, f, next)

  pub exec_some : kind_of choice.kind ≡ Some Kind.Exec → (o : ℕ) → object_of c choice.number ≡ Some o → next m c choice ≡ Exec.exec m c o
  unfolding next object_of Kinds.in_use ruled
  exec_some e o f = rw (e, f, next)

  -- of a label
  module _ (k : Kind) (e : kind_of choice.kind ≡ Some k) (labelled : Kinds.in_use c k ≡ rows_in_use c) where
    pub label_none : label_of c choice.number ≡ None → next m c choice ≡ refused not_in_use
    unfolding next label_of
    label_none f = rw (e, labelled, f, next)

    pub label_some : (l : ℕ) → label_of c choice.number ≡ Some l → next m c choice ≡ ruled m c k l
    unfolding next label_of
    label_some l f = rw (e, labelled, f, next)

-- every kind but exec goes by label
pub by_label : (c : Cells) (k : Kind) → (k ≡ Kind.Exec → ⊥) → Kinds.in_use c k ≡ rows_in_use c
unfolding Kinds.in_use
by_label c Kind.Exec n = absurd (n refl)
by_label c Kind.Arrive n = refl
by_label c Kind.Bind n = refl
by_label c Kind.Start n = refl
by_label c Kind.Deliver n = refl

-- the kind of a choice, as the code tests it: whether it is exec's, and which it is
module _ (choice : Choice) (small-kind : mag choice.kind < 2147483648) where
  module _ (n : ℤ) (named : n ≡ pos (Kinds.kind_number Kind.Exec)) where
    pub exec_named : of_z w32 choice.kind ≡ of_z w32 n → kind_of choice.kind ≡ Some Kind.Exec
    unfolding Kinds.kind_number kind_of
    exec_named e = ap kind_of (sym (handed choice.kind _ small-kind refl) ∙ ap (to_z w32) (e ∙ ap (of_z w32) named))

    pub not_exec : (of_z w32 choice.kind ≡ of_z w32 n → ⊥) → kind_of choice.kind ≡ Some Kind.Exec → ⊥
    not_exec other e = other (ap (of_z w32) (number_of_kind choice.kind Kind.Exec e ∙ sym named))

  pub its_kind : (k j : Kind) → Ok j ≡ ok_or (kind_of (to_z w32 (of_z w32 choice.kind))) NotInUse → j ≡ k → kind_of choice.kind ≡ Some k
  its_kind k j named is = there _ NotInUse j (rw (handed choice.kind _ small-kind refl) at named) ∙ ap Some is

-- a choice as the code tests it, and what was found of its number
module _ (m : Model) (c : Cells) (choice : Choice) (small-kind : mag choice.kind < 2147483648) (small-number : mag choice.number < 2147483648) where
  -- of exec
  module _ (exec : kind_of choice.kind ≡ Some Kind.Exec) (found : Option ObjectNumber) (told : found ≡ as_object (object_of c (to_z w32 (of_z w32 choice.number)))) where
    object_told : found ≡ as_object (object_of c choice.number)
    object_told = told ∙ ap (λ z. as_object (object_of c z)) (handed choice.number _ small-number refl)

    pub no_object : (y : Refusal) (r : Answer) → Err y ≡ ok_or found NotInUse → IsErrAnd r (λ q. q ≡ y) → Done c (next m c choice) r c
    unfolding number_of
    no_object y r e exit = not_found found NotInUse c _ y r e exit (λ none. exec_none m c choice exec (object_none _ (sym object_told ∙ none)))

    pub at_object : (o : ObjectNumber) → Ok o ≡ ok_or found NotInUse → (r : Answer) (d : Cells) → Done c (Exec.exec m c o.0) r d → Done c (next m c choice) r d
    at_object o e r d h = same_done c _ _ r d (exec_some m c choice exec o.0 (object_some _ o (sym object_told ∙ there found NotInUse o e))) h

  -- of any other kind, or of none
  module _ (found : Option Label) (told : found ≡ as_label (label_of c (to_z w32 (of_z w32 choice.number)))) where
    label_told : found ≡ as_label (label_of c choice.number)
    label_told = told ∙ ap (λ z. as_label (label_of c z)) (handed choice.number _ small-number refl)

    unlabelled : (kind_of choice.kind ≡ Some Kind.Exec → ⊥) → label_of c choice.number ≡ None → next m c choice ≡ refused not_in_use
    unlabelled other none = go (kind_of choice.kind) refl
      where
        go : (k : Option Kind) → kind_of choice.kind ≡ k → next m c choice ≡ refused not_in_use
        go None e = no_kind m c choice e
        go (Some k) e = label_none m c choice k e (by_label c k (λ f. other (e ∙ ap Some f))) none

    pub label_missed : (kind_of choice.kind ≡ Some Kind.Exec → ⊥) → (y : Refusal) (r : Answer) → Err y ≡ ok_or found NotInUse → IsErrAnd r (λ q. q ≡ y) → Done c (next m c choice) r c
    unfolding number_of
    label_missed other y r e exit = not_found found NotInUse c _ y r e exit (λ none. unlabelled other (Numbers.label_none _ (sym label_told ∙ none)))

    module _ (k j : Kind) (named : Ok j ≡ ok_or (kind_of (to_z w32 (of_z w32 choice.kind))) NotInUse) (is : j ≡ k) (labelled : Kinds.in_use c k ≡ rows_in_use c) where
      pub at_label : (l : Label) → Ok l ≡ ok_or found NotInUse → (r : Answer) (d : Cells) → Done c (ruled m c k l.0) r d → Done c (next m c choice) r d
      at_label l e r d h =
          same_done c _ _ r d (label_some m c choice k (its_kind choice small-kind k j named is) labelled l.0 (Numbers.label_some _ l (sym label_told ∙ there found NotInUse l e))) h

  -- of a kind that was told first, and goes by label
  module _ (k j : Kind) (named : Ok j ≡ ok_or (kind_of (to_z w32 (of_z w32 choice.kind))) NotInUse) (is : j ≡ k) (labelled : Kinds.in_use c k ≡ rows_in_use c) (found : Option Label) (told : found ≡ as_label (label_of c (to_z w32 (of_z w32 choice.number)))) where
    pub no_label : (y : Refusal) (r : Answer) → Err y ≡ ok_or found NotInUse → IsErrAnd r (λ q. q ≡ y) → Done c (next m c choice) r c
    unfolding number_of
    no_label y r e exit =
        not_found found NotInUse c _ y r e exit
        (λ none. label_none m c choice k (its_kind choice small-kind k j named is) labelled (Numbers.label_none _ (sym (label_told found told) ∙ none)))

  pub kindless : (y : Refusal) (r : Answer) → Err y ≡ ok_or (kind_of (to_z w32 (of_z w32 choice.kind))) NotInUse → IsErrAnd r (λ q. q ≡ y)
      → Done c (next m c choice) r c
  unfolding number_of
  kindless y r e exit = not_found _ NotInUse c _ y r (rw (handed choice.kind _ small-kind refl) at e) exit (no_kind m c choice)

-- a label that was found is in use
pub label_used : (c : Cells) (z : ℤ) (found : Option Label) (l : Label) → found ≡ as_label (label_of c z) → Ok l ≡ ok_or found NotInUse → InUse c l.0
label_used c z found l told e = label_within c z l.0 (Numbers.label_some _ l (sym told ∙ there found NotInUse l e))
