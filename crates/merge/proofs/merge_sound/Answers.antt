-- `merge_sound`: the leaves of each image, from its root on, are those of a book.
-- Assumes nothing.
use Rattle.merge.proofs.Standing.{root-read, tree-asked, listed_are}
use Rattle.merge.proofs.merge_sound.Goals as goal

pub root_of-requires : goal.root_of-requires
root_of-requires c = root-read c.args.first.now c.requires.0

pub leaves_of-one-requires : goal.leaves_of-one-requires
leaves_of-one-requires c = tree-asked c.args.first.now c.requires.0 _ c.root_of.ensures

pub root_of-requires-2 : goal.root_of-requires-2
root_of-requires-2 c = root-read c.args.second.now c.requires.1

pub leaves_of-two-requires : goal.leaves_of-two-requires
leaves_of-two-requires c = tree-asked c.args.second.now c.requires.1 _ c.root_of-2.ensures

pub merge_books-requires : goal.merge_books-requires
merge_books-requires c =
    let a = c.args in
    record {
      first_value = (c.requires.0, listed_are a.first.now c.requires.0 _ c.root_of.ensures _ c.leaves_of-one.ensures.pages);
      second_value = (c.requires.1, listed_are a.second.now c.requires.1 _ c.root_of-2.ensures _ c.leaves_of-two.ensures.pages);
      third_value = c.requires.2;
    }
