-- One name that opens every definition which a row computes.
-- Assumes nothing.
use Prim.Native.Nat.{ℕ}
use Rattle.codec.specs.Lists.{part, splice, insert_at, remove_at, eqs, every, all_b}
use Rattle.codec.specs.Numbers.{number, bytes_of}
use Rattle.device.specs.Tape.{unit, follows, place_ok, is_command, front, scan, decode, how_many, head_bytes, command_bytes, tape_bytes}
use Rattle.page.specs.Layout.{up8, size, record_bytes, record_in, record_at, padded, slot_bytes, slots_in, header_bytes, read_head, unused_head}
use Rattle.page.specs.Operations.{seal, written, insert_head, update_head, delete_head, insert, update, delete, in_place, fill_head, fill_bytes, fill, sizes, made, page_of, put_page}
use Rattle.page.specs.Page.{entries, records, rec_ok, head_ok, held_b, off_b, apart_b, laid_out, form_ok, starts_at, keys_rise, page_ok}
use Rattle.page.specs.Search.{searched}
use Rattle.image.specs.Calls.{root_from, root_call, check_from, check_call, key_ok}
use Rattle.image.specs.Fresh.{zero_page, fresh_zero, separators, named, filled_pages, pages_above, index_over, pages_over, stored, fresh}
use Rattle.image.specs.Image.{child_of, index_rec, children, among, distinct, gathered, pages_in, leaves_in, height_in, reached, places, bound_ok, under_ok, tree_in, tree_ok}
use Rattle.image.specs.PageZero.{is_page, root_of, mark_bytes, no_mark, mark_ok, words_past, page_zero}
use Rattle.image.specs.Route.{last_from, route}
use Rattle.image.specs.Table.{table_in, table}
use Rattle.edit.specs.EditList.{edit_bytes, edit_of, edit_in, fault_in, joined, edits_in, edit_list}
use Rattle.journal.specs.Changes.{free_word, word_stores, flushes_from, flushes_of, stage_a, header_line, changed_from, changed_pages, same_root}
use Rattle.journal.specs.Way.{line_by}
use Rattle.journal.specs.Log.{own_page, log_stores, log_flushes, log_tape, header_stores, header_flushes, header_tape, ending, replay_tape}
use Rattle.journal.specs.Tape.{join_lines, by_header, by_root, mark_flush, by_log, one_header, choose, room_in_log, taken_for, commit_of}
use Rattle.tree.specs.Edits.{split_from, split_point, is_full, copied, split, moved, put, dropped, copy_then, then_into, absorbed, edit_leaf, onto, low_of, rooted, only_leaf, edited_in}
use Rattle.tree.specs.Edits as tree
use Rattle.tree.specs.State.{others, begin, take_page, taken, filled}
use Rattle.tree.specs.Whole.{onward, edits_from_in, pages_from, put_back, edited_image, edits_on}
use Rattle.transaction.specs.Calls.{refused_with, accepted_with, committed, outcome_of, list_of, checked_of, transaction_call}
use Rattle.worked.specs.Row.{lent_tape, transacted, after, refusal_in, edit_number_in, bytes_in, flushes_in, kind_and_place, kinds_and_places, read_off, read_all, found}
use Rattle.worked.specs.Rows.{value, inserts}

unfoldable pub opened : ℕ
unfolding part splice insert_at remove_at eqs every all_b number bytes_of unit follows place_ok is_command front scan decode how_many head_bytes command_bytes tape_bytes up8 size record_bytes record_in record_at padded slot_bytes slots_in header_bytes read_head unused_head seal written insert_head update_head delete_head insert update delete in_place fill_head fill_bytes fill sizes made page_of put_page entries records rec_ok head_ok held_b off_b apart_b laid_out form_ok starts_at keys_rise page_ok searched root_from root_call check_from check_call key_ok zero_page fresh_zero separators named filled_pages pages_above index_over pages_over stored fresh child_of index_rec children among distinct gathered pages_in leaves_in height_in reached places bound_ok under_ok tree_in tree_ok is_page root_of mark_bytes no_mark mark_ok words_past page_zero last_from route table_in table edit_bytes edit_of edit_in fault_in joined edits_in edit_list free_word word_stores flushes_from flushes_of stage_a header_line changed_from changed_pages same_root line_by own_page log_stores log_flushes log_tape header_stores header_flushes header_tape ending replay_tape join_lines by_header by_root mark_flush by_log one_header choose room_in_log taken_for commit_of split_from split_point is_full copied split moved put dropped copy_then then_into absorbed edit_leaf onto low_of tree.edit_in rooted only_leaf edited_in others begin take_page taken filled onward edits_from_in pages_from put_back edited_image edits_on refused_with accepted_with committed outcome_of list_of checked_of transaction_call lent_tape transacted after refusal_in edit_number_in bytes_in flushes_in kind_and_place kinds_and_places read_off read_all found value inserts
opened = 0
