-- The short rows, each computed by the checker within a step limit of its own.
-- Assumes nothing.
use mathlib.Core.Path.{refl}
use Rattle.worked.specs.Row.{Holds}
use Rattle.worked.specs.Rows.{insert-one, insert-zeros, no-edit, seventeen, value-200, value-201, key-zero, key-top, key-past, twenty-eight, one_more, value-80, value-81, insert-delete}
use Rattle.worked.proofs.Open.{opened}

pub insert-one-holds : Holds insert-one
unfolding opened
insert-one-holds = refl

pub insert-zeros-holds : Holds insert-zeros
unfolding opened
insert-zeros-holds = refl

pub no-edit-holds : Holds no-edit
unfolding opened
no-edit-holds = refl

pub seventeen-holds : Holds seventeen
unfolding opened
seventeen-holds = refl

pub value-200-holds : Holds value-200
unfolding opened
value-200-holds = refl

pub value-201-holds : Holds value-201
unfolding opened
value-201-holds = refl

pub key-zero-holds : Holds key-zero
unfolding opened
key-zero-holds = refl

pub key-top-holds : Holds key-top
unfolding opened
key-top-holds = refl

pub key-past-holds : Holds key-past
unfolding opened
key-past-holds = refl

pub twenty-eight-holds : Holds twenty-eight
unfolding opened
twenty-eight-holds = refl

pub one-more-holds : Holds one_more
unfolding opened
one-more-holds = refl

pub value-80-holds : Holds value-80
unfolding opened
value-80-holds = refl

pub value-81-holds : Holds value-81
unfolding opened
value-81-holds = refl

pub insert-delete-holds : Holds insert-delete
unfolding opened
insert-delete-holds = refl
