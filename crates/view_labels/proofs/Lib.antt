mod LabelTexts
