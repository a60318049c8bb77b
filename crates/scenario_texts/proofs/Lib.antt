mod LineCuts
