-- The class gives the worked goals their proofs.
use Rattle.std.proofs.Common.{true, false, refl}
use Rattle.prover_class.specs.NormalForms.{normalized}
use Rattle.test_class.specs.Small.{AreWorked, small_rows}
use Rattle.test_class.specs.Returns.{return_rows, t0_part, row_18_part, row_1_part}
use Rattle.test_class.specs.Loads.{load_rows, row_6_part, row_5_part, row_19_0_part, row_19_1_part, row_21_part}
use Rattle.test_class.specs.Shapes.{shape_rows}
use Rattle.test_class.specs.Forms.{form_rows}
use Rattle.test_class.specs.Bounds.{bound_rows}
use Rattle.test_class.specs.Access.{access_rows}
use Rattle.test_class.specs.Later.{later_sums, later_bits, later_bytes, later_others}
use Rattle.test_class.specs.Counted.{counted_differences, counted_sums, uncounted_rows}

pub small_worked : AreWorked false small_rows
unfolding normalized small_rows
small_worked = (refl, (refl, (refl, (refl, (refl, (refl, (refl, (refl, (refl, (refl, (refl, (refl, (refl, (refl, tt))))))))))))))

pub returns_worked : AreWorked false return_rows
unfolding normalized return_rows t0_part row_18_part row_1_part
returns_worked = (refl, (refl, (refl, tt)))

pub loads_worked : AreWorked false load_rows
unfolding normalized load_rows row_6_part row_5_part row_19_0_part row_19_1_part row_21_part
loads_worked = (refl, (refl, (refl, (refl, (refl, tt)))))

pub shapes_worked : AreWorked false shape_rows
unfolding normalized shape_rows
shapes_worked = (refl, (refl, (refl, (refl, (refl, (refl, (refl, (refl, (refl, (refl, (refl, (refl, (refl, (refl, (refl, (refl, (refl, (refl, (refl, (refl, (refl, (refl, (refl, (refl, (refl, tt)))))))))))))))))))))))))

pub forms_worked : AreWorked false form_rows
unfolding normalized form_rows
forms_worked = (refl, (refl, (refl, (refl, (refl, (refl, (refl, (refl, (refl, (refl, (refl, (refl, (refl, (refl, (refl, (refl, (refl, (refl, (refl, tt)))))))))))))))))))

pub bounds_worked : AreWorked false bound_rows
unfolding normalized bound_rows
bounds_worked = (refl, (refl, (refl, (refl, (refl, (refl, (refl, (refl, (refl, (refl, (refl, (refl, (refl, (refl, (refl, (refl, (refl, (refl, (refl, (refl, (refl, (refl, (refl, (refl, (refl, (refl, (refl, (refl, (refl, (refl, (refl, (refl, (refl, (refl, (refl, (refl, (refl, tt)))))))))))))))))))))))))))))))))))))

pub access_worked : AreWorked false access_rows
unfolding normalized access_rows
access_worked = (refl, (refl, (refl, (refl, (refl, (refl, (refl, (refl, (refl, (refl, (refl, (refl, (refl, (refl, (refl, (refl, (refl, (refl, (refl, (refl, (refl, (refl, (refl, tt)))))))))))))))))))))))

pub later_sums_worked : AreWorked false later_sums
unfolding normalized later_sums
later_sums_worked =
    (refl, (refl, (refl, (refl, (refl, (refl, tt))))))

pub later_bits_worked : AreWorked false later_bits
unfolding normalized later_bits
later_bits_worked =
    (refl, (refl, (refl, (refl, (refl, (refl, (refl, (refl, (refl, (refl, (refl, tt)))))))))))

pub later_bytes_worked : AreWorked false later_bytes
unfolding normalized later_bytes
later_bytes_worked =
    (refl, (refl, (refl, (refl, (refl, (refl, (refl, (refl, (refl, (refl, tt))))))))))

pub later_others_worked : AreWorked false later_others
unfolding normalized later_others
later_others_worked =
    (refl, (refl, (refl, (refl, (refl, (refl, (refl, (refl, (refl, tt)))))))))

pub differences_worked : AreWorked true counted_differences
unfolding normalized counted_differences
differences_worked = (
  refl,
  (
    refl,
    (
      refl,
      (
        refl,
        (
          refl,
          (
            refl,
            (
              refl,
              (
                refl,
                (
                  refl,
                  (refl, (refl, (refl, (refl, (refl, (refl, (refl, tt))))))),
                ),
              ),
            ),
          ),
        ),
      ),
    ),
  ),
)

pub counted_sums_worked : AreWorked true counted_sums
unfolding normalized counted_sums
counted_sums_worked = (refl, tt)

pub uncounted_worked : AreWorked false uncounted_rows
unfolding normalized uncounted_rows
uncounted_worked = (refl, (refl, (refl, (refl, tt))))
