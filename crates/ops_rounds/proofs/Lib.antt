mod RoundsLaws
