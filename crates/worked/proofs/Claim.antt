-- The claim: every row of the table holds.
-- Assumes nothing.
use Rattle.codec.specs.Lists.{All}
use Rattle.worked.specs.Row.{Holds}
use Rattle.worked.specs.Rows.{rows}
use Rattle.worked.proofs.Short.{
  insert-one-holds,
  insert-zeros-holds,
  no-edit-holds,
  seventeen-holds,
  value-200-holds,
  value-201-holds,
  key-zero-holds,
  key-top-holds,
  key-past-holds,
  twenty-eight-holds,
  one-more-holds,
  value-80-holds,
  value-81-holds,
  insert-delete-holds,
}
use Rattle.worked.proofs.Updates.{updates-39-holds, updates-40-holds}

pub worked-on-paper : All Holds rows
worked-on-paper = (
  insert-one-holds,
  (
    insert-zeros-holds,
    (
      no-edit-holds,
      (
        seventeen-holds,
        (
          value-200-holds,
          (
            value-201-holds,
            (
              key-zero-holds,
              (
                key-top-holds,
                (
                  key-past-holds,
                  (
                    twenty-eight-holds,
                    (
                      one-more-holds,
                      (
                        value-80-holds,
                        (
                          value-81-holds,
                          (
                            updates-39-holds,
                            (
                              updates-40-holds,
                              (insert-delete-holds, tt),
                            ),
                          ),
                        ),
                      ),
                    ),
                  ),
                ),
              ),
            ),
          ),
        ),
      ),
    ),
  ),
)
