-- The examples hold, by computation: a wrong row is shown by its place in the two lists. Assumes nothing.
use mathlib.Core.Path.{refl}
use Rattle.base.specs.Lists.{same, span, any, all, first, last, joined}
use Rattle.characters.specs.Bare.{bare_length}
use Rattle.characters.specs.Class.{key_byte, group_byte, blank_byte, value_byte, text_byte}
use Rattle.characters.specs.Utf8.{lead, step, text_fault}
use Rattle.text.specs.Escape.{text_escape, escape, text_from, read_text, escaped, escaped_all, raw_text, fit_text, write_text}
use Rattle.text.specs.Element.{raw_elements, each_read, elements_of, read_elements}
use Rattle.line.specs.Locale.{part_length, parts, empty_part, is_locale}
use Rattle.line.specs.Name.{postfix_at, read_name}
use Rattle.line.specs.Line.{entry_after, read_entry, read_header, read_line}
use Rattle.line.specs.Form.{group_form, plain_form, key_form, locale_form}
use Rattle.record.specs.Number.{little_endian, number_in}
use Rattle.record.specs.Record.{head_bytes, record_bytes, list_bytes, list_of, cut_after, bodies_of, read_list, read_each, read_records}
use Rattle.rows.specs.Rows.{rows, line_of, ended, rows_from, read_rows, raw_value}
use Rattle.rows.specs.Title.{title, same_title, find_row}
use Rattle.wellformed.specs.Check.{title_fault, earliest, plain_of, no_plain, titled_as, plain_all, check_as}
use Rattle.choice.specs.Locale.{stripped, plain_locale, candidates, stripped_key, find_stripped, first_key, chosen}
use Rattle.entry.specs.Lookup.{value_ends, lookup}
use Rattle.entry.specs.Choose.{choose}
use Rattle.splice.specs.Edit.{spliced, buffer_with, replaced}
use Rattle.change.specs.Change.{inserting, set_edit, edit_of}
use Rattle.journal.specs.Journal.{edit_bytes, edit_record, parted_at, read_journal}
use Rattle.journal.specs.Lent.{numbers_fit}
use Rattle.edit.specs.Calls.{lengths_fit, file_checked, opened, applied, request}
use Rattle.command.specs.Words.{word_length, words_after}
use Rattle.command.specs.Codes.{reserved, unquoted_byte, needs_backslash, quoted_byte, stands_in, code_piece, code_in}
use Rattle.command.specs.Command.{piece_of, width_of, pieces_after, form_of, argument_of, piece_fault, pieces_fault, quoted_fault, word_fault, words_fault, read_command}
use Rattle.run.specs.Run.{piece_bytes, pieces_bytes, leaves_nothing, icon_arguments, expanded, expanded_all, runs}
use Rattle.exec.specs.Expand.{no_zero, fit_item, fit_location, asked_items, name_text, icon_text, run_arguments, group_arguments, expand}
use Rattle.demands.specs.Examples.{ExamplesHold}

pub examples-hold : ExamplesHold
unfolding same span any all first last key_byte group_byte blank_byte value_byte text_byte lead step text_fault
    text_escape escape text_from read_text escaped escaped_all raw_text fit_text write_text raw_elements each_read elements_of read_elements
    part_length parts empty_part is_locale postfix_at read_name entry_after read_entry read_header read_line group_form plain_form key_form locale_form
    rows line_of rows_from read_rows title same_title find_row title_fault earliest plain_of no_plain titled_as plain_all check_as
    stripped plain_locale candidates stripped_key find_stripped first_key chosen value_ends lookup choose
    little_endian number_in head_bytes record_bytes list_bytes list_of cut_after ended raw_value spliced replaced buffer_with inserting set_edit edit_of
    edit_bytes edit_record parted_at read_journal numbers_fit lengths_fit file_checked opened applied request
    joined bodies_of read_list read_each read_records bare_length word_length words_after
    reserved unquoted_byte needs_backslash quoted_byte stands_in code_piece code_in
    piece_of width_of pieces_after form_of argument_of piece_fault pieces_fault quoted_fault word_fault words_fault read_command
    piece_bytes pieces_bytes leaves_nothing icon_arguments expanded expanded_all runs
    no_zero fit_item fit_location asked_items name_text icon_text run_arguments group_arguments expand
examples-hold = refl
