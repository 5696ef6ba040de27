-- The marked cases hold, computed from the definitions. Assumes nothing.
use mathlib.Core.Path.{◌≡◌, refl}
use mathlib.Core.List.{◌++◌}
use mathlib.Core.Bool.{true}
use Rattle.rules.specs.01-Lists.{same_bytes, bytes_before, any, all, first, without, rising, put, put_all, place, joined, repeated, numbers, greatest}
use Rattle.rules.specs.03-Names.{letter, letter_or_digit, well_formed, lower, lowered, same_name, name_before, parted, names_in}
use Rattle.rules.specs.04-Schema.{has_mode, fresh, used_sds, parents, is_parent, reverse, present, bears, type_named, local_name, applied, has_end}
use Rattle.rules.specs.06-Good.{presence_before, application_before, end_before}
use Rattle.rules.specs.05-Descent.{climbs, descends, height, depth, members}
use Rattle.rules.specs.07-Picture.{pad, sds_row, type_row, application_row, end_row, table, name_start}
use Rattle.rules.specs.08-Working.{visible, applied_in, end_in, shown, upward}
use Rattle.rules.specs.09-Refusals as Refusals
use Rattle.rules.specs.10-Changes as Changes
use Rattle.rules.specs.11-Asks as Asks
use Rattle.rules.specs.11-File as File
use Rattle.rules.specs.14-Run as Run
use Rattle.rules.specs.15-Cases.{marked, own, row_holds, calls_hold, lines_hold}

pub cases_hold : all row_holds (marked ++ own) ≡ true
unfolding
    same_bytes bytes_before any all first without rising put put_all joined place repeated numbers
    letter letter_or_digit well_formed lower lowered same_name name_before parted names_in
    has_mode fresh used_sds parents is_parent reverse present bears type_named local_name applied has_end
    presence_before application_before end_before
    climbs descends greatest height depth members
    pad sds_row type_row application_row end_row table name_start
    visible applied_in end_in shown upward
    Refusals.verdict Refusals.unknown_sds Refusals.system_sds Refusals.malformed Refusals.malformed_new Refusals.unknown_value_kind
    Refusals.no_pair Refusals.unknown_mode Refusals.unknown_object_scan Refusals.unknown_link_scan Refusals.not_1_to_4 Refusals.no_such_name
    Refusals.no_name_listed Refusals.not_visible Refusals.not_present Refusals.no_object Refusals.no_attribute Refusals.no_link
    Refusals.idle_reverse_name Refusals.sds_name_taken Refusals.names_taken Refusals.borne_by_another
    Refusals.types_in Refusals.child_there Refusals.applied_there Refusals.end_of Refusals.end_there Refusals.in_the_way
    Refusals.free_sdss Refusals.free_types Refusals.no_free_sds Refusals.presences_full
    Refusals.applications_full Refusals.ends_full Refusals.types_full Refusals.short_output
    Changes.new_sds Changes.remove_sds Changes.new_object Changes.new_attribute Changes.new_designation
    Changes.new_pair Changes.imported Changes.missing Changes.incoming Changes.import Changes.apply Changes.unapply Changes.both_ends Changes.add_end
    Changes.remove_end Changes.less_gone Changes.remove_type Changes.remove_number Changes.rename Changes.rename_number Changes.modes_set Changes.set_modes
    Asks.object_scan_list Asks.scan_object Asks.link_scan_list Asks.scan_link Asks.profile_list Asks.profile Asks.find
    Asks.depth_of Asks.name Asks.marks Asks.visible_descendant Asks.descendant_set Asks.mode_listed Asks.modes_of
    File.section File.presence_entry File.sds_entries File.type_entries File.parent_entries File.entries_in File.presence_entries
    File.application_entries File.end_entries File.file_of File.write_file
    Run.decimal Run.printed Run.sds_called Run.joined Run.obey_sds Run.obey_import Run.obey_object Run.obey_remove Run.obey_desc
    Run.obey_depth Run.unreadable Run.obey Run.reply calls_hold lines_hold
cases_hold = refl
